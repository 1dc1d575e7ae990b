pub mod Decimals
pub mod Lengths
pub mod Rooms
pub mod Hex
