pub mod Views
pub mod Lent
pub mod Simple
pub mod Prefix
