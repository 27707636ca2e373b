pub mod Examples
pub mod GroundExamples
pub mod Laws
