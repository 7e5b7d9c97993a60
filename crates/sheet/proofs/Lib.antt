pub mod TestsLaws
pub mod UsableSheet
