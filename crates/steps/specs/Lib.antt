pub mod Step
pub mod Tokens
