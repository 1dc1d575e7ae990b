pub mod Joining
pub mod Cleaning
pub mod Parts
