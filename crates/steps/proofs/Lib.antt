pub mod Entries
pub mod Founds
pub mod Giving
