pub mod Whole
pub mod Sample
