pub mod BenchSheet
pub mod Facts
