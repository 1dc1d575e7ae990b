pub mod BeginsNothing
pub mod Tokens
