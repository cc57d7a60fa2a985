pub mod Blocks
pub mod Sort
