pub mod ReplayMachine
pub mod Stored
