pub mod Accepted
pub mod Months
