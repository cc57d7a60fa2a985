pub mod Parts
pub mod Keeps
pub mod One
pub mod Loop
pub mod Turns
