pub mod Weak
