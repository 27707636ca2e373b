pub mod Examples
pub mod Marks
pub mod Weekdays
