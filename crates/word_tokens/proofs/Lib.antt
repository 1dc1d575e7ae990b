pub mod Plain
pub mod Words
pub mod Begun
pub mod Others
