pub mod Calls
pub mod Grounds
pub mod Rules
pub mod Right
