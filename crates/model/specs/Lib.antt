pub mod Refusals
pub mod Refused
pub mod Model
pub mod Opening
pub mod Settled
pub mod Sound
