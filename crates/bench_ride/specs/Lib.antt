pub mod BenchRide
pub mod Extends
