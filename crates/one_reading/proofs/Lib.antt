pub mod Means
pub mod Beside
pub mod TestSums
pub mod Accepted
