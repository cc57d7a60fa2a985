pub mod Counts
pub mod Parts
pub mod Body
pub mod File
