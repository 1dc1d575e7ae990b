pub mod Buffers
pub mod Lengths
