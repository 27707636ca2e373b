pub mod Laws
pub mod Rule
pub mod Even
pub mod Turns
pub mod Placing
pub mod Examples
