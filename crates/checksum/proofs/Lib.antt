pub mod Quotient
pub mod Xor
pub mod Register
pub mod V42
