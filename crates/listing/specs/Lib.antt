pub mod Listing
pub mod Buffers
pub mod Sample
