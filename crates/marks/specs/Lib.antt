pub mod Marks
pub mod Peak
