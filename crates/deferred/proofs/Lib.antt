pub mod ReadyLaws
pub mod SlotsLaws
pub mod EntryLaws
