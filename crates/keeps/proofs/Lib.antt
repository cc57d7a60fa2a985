pub mod Notes
pub mod Rides
pub mod Calls
pub mod Fresh
pub mod Few
pub mod Places
pub mod Extends
pub mod Fits
