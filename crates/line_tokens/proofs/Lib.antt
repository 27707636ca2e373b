pub mod Ends
pub mod Examples
pub mod Spans
