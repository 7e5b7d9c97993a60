pub mod Leaf
