pub mod Metered
pub mod Counts
