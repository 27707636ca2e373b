pub mod Counted
pub mod GroundLaws
