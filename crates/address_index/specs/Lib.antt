pub mod Searches
pub mod Layout
pub mod Links
pub mod Entries
pub mod Sorted
pub mod Numbered
