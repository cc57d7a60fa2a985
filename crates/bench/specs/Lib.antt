pub mod Rides
pub mod Grants
