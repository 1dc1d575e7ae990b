pub mod Laws
pub mod Again
