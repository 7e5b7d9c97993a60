pub mod ReferenceLaws
pub mod ListLaws
pub mod FoundLaws
