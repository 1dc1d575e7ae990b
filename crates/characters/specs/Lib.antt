pub mod Choice
pub mod Utf8
pub mod Valid
pub mod BadBytes
pub mod Space
