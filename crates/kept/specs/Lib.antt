pub mod Bytes
pub mod Kept
pub mod Marking
pub mod Walk
