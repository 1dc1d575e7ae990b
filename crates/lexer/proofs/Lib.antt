pub mod Answers
pub mod Fits
pub mod Places
pub mod Back
pub mod Outcome
pub mod BadBytes
pub mod Joining
