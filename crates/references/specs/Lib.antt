pub mod Held
pub mod References
pub mod Found
pub mod SlotsOf
