pub mod Inside
pub mod Units
pub mod Pieces
pub mod Steps
