pub mod Question7
pub mod Sort
pub mod Laws
