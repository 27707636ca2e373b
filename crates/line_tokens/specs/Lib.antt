pub mod Tokens
pub mod Words
