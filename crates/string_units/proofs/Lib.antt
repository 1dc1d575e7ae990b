pub mod Opens
pub mod UnitLaws
