pub mod RecordLaws
pub mod Laws
