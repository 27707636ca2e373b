pub mod Codes
pub mod Changes
pub mod Names
pub mod Modes
pub mod Buffers
pub mod Lines
