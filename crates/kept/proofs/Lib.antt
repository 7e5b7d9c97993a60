pub mod TotalLaws
pub mod MarkLaws
pub mod SweepLaws
pub mod WalkLaws
