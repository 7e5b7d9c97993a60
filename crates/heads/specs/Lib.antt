pub mod Heads
pub mod Assigning
