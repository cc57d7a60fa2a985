pub mod Acts
pub mod Stored
