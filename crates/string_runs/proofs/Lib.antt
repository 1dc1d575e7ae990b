pub mod RunLaws
pub mod Rows
