pub mod Faults
pub mod Sizes
pub mod Quoted
pub mod Letters
pub mod Comments
