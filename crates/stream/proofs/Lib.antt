pub mod ByteLaws
pub mod IntegerLaws
pub mod SmiLaws
