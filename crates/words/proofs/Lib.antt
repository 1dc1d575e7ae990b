pub mod Segments
pub mod Others
pub mod Begins
