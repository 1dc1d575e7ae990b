pub mod InterpLaws
