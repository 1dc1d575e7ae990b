pub mod Strings
pub mod Cursor
