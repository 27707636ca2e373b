pub mod Places
pub mod Text
