pub mod Interpolations
