pub mod CharLaws
pub mod LetterLaws
pub mod CloseLaws
