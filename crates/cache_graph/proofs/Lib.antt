pub mod SecondLaws
pub mod CallLaws
