pub mod Trimming
pub mod Places
pub mod Inks
