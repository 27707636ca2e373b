pub mod Examples
pub mod Laws
