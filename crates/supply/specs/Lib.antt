pub mod Supply
pub mod Samples
