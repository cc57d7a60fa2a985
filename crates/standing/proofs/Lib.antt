pub mod Laws
pub mod Known
pub mod Amounts
pub mod Same
