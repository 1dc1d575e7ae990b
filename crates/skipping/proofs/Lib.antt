pub mod Slashes
pub mod Stops
pub mod Skips
pub mod Comments
