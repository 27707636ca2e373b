pub mod Power
pub mod Limits
pub mod Basis
