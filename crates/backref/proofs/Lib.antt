pub mod BackrefLaws
