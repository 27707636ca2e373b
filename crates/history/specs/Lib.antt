pub mod Book
pub mod Claim
pub mod Equal
