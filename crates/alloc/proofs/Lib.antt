pub mod Laws
pub mod FindLaws
pub mod AllocationLaws
