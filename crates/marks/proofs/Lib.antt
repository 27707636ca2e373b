pub mod Laws
pub mod Rule
pub mod Flag
pub mod WhichDay
pub mod Examples
