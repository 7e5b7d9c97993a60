pub mod Index
pub mod Head
pub mod Item
pub mod Map
