pub mod Memory
pub mod Slots
pub mod Object
pub mod Reference
pub mod Closing
pub mod Call
pub mod Cases
