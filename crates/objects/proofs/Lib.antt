pub mod AnswerLaws
pub mod HeadLaws
pub mod MapLaws
pub mod MapSteps
pub mod WaiterLaws
pub mod SearchLaws
pub mod ResolveLaws
pub mod ItemLaws
