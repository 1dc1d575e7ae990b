pub mod Tokenize
pub mod Places
pub mod Joining
