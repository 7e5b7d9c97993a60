pub mod WeakLaws
