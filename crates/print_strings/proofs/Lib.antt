pub mod Turns
pub mod Rows
pub mod Loops
pub mod Interps
pub mod Plains
