pub mod Printing
pub mod Passes
pub mod Calls
