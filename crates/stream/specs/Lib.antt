pub mod Bytes
pub mod PutInt
pub mod Smi
