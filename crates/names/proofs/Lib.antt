pub mod Tests
pub mod Names
