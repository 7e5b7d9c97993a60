pub mod Answers
pub mod Assigning
pub mod Rules
pub mod Spans
