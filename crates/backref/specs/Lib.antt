pub mod HotRing
pub mod Legacy
pub mod Reader
