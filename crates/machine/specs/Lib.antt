pub mod Machine
pub mod Cutting
pub mod Runs
pub mod ThirdDemand
pub mod Banded
pub mod Samples
