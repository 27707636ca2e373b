pub mod Grounds
pub mod Closings
pub mod Compared
