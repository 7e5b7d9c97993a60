pub mod Names
pub mod Sheet
pub mod Usable
pub mod Tests
