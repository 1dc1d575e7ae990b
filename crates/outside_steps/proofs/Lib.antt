pub mod Skipping
pub mod Choices
