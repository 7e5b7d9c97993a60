pub mod Promise
pub mod SecondCall
