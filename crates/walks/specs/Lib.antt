pub mod Errors
pub mod Walks
pub mod Segments
pub mod Openings
