pub mod Calls
pub mod Week
