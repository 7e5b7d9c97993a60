pub mod Numbers
pub mod Answered
