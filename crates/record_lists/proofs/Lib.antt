pub mod Shift
pub mod Front
pub mod Back
