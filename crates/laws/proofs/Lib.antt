pub mod Theorems
pub mod Fuel
