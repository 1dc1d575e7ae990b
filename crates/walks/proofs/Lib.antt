pub mod Starts
pub mod Walks
pub mod Openings
pub mod Segments
pub mod Enclosed
pub mod Errors
pub mod Whole
