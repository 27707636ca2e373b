pub mod Lists
pub mod Rounding
