pub mod Starred
pub mod Sizes
pub mod Lining
