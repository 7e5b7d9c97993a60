pub mod ViewLaws
pub mod IntLaws
pub mod SimpleLaws
pub mod PrefixLaws
