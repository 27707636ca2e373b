pub mod Laws
pub mod PastMonths
