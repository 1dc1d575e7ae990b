pub mod Strings
pub mod Feedless
pub mod Walking
