pub mod Needed
pub mod Room
