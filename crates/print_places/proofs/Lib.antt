pub mod Lineless
pub mod Tokens
pub mod Elements
