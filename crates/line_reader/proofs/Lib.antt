pub mod Ends
pub mod Examples
pub mod Finished
pub mod Parts
pub mod Values
pub mod Written
