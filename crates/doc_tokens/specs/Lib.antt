pub mod Documented
