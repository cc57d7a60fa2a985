pub mod OneReading
pub mod Pairs
