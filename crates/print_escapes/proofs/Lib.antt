pub mod Sizes
pub mod Bare
pub mod Walks
pub mod Literals
