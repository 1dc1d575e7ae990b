pub mod Parts
pub mod Units
pub mod Lines
