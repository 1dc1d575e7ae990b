pub mod Fields
pub mod Kinds
pub mod Records
pub mod Errors
pub mod Answers
pub mod Layout
