pub mod Keeps
pub mod Few
pub mod Places
pub mod Extends
