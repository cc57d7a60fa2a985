pub mod Rides
