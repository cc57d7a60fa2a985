pub mod Acts
pub mod Replay
