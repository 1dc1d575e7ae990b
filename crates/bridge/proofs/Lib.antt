pub mod Tests
pub mod Bytes
pub mod Values
pub mod Cuts
pub mod Reaches
pub mod Plains
