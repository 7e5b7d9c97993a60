pub mod CountLaws
pub mod LayoutLaws
pub mod LinkLaws
pub mod FindLaws
