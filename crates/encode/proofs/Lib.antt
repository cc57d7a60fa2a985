pub mod Many
pub mod Sizes
pub mod File
