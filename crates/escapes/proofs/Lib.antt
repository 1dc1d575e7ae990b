pub mod Digits
pub mod Letters
