pub mod Export
pub mod Part
pub mod Covered
pub mod Told
