pub mod Examples
pub mod Selected
pub mod Bits
pub mod Laws
pub mod Days
pub mod Padded
pub mod Loops
