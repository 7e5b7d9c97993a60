pub mod PaddingLaws
pub mod ClosingLaws
pub mod WalkLaws
