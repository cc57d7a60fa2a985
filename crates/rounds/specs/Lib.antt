pub mod Rounds
pub mod Contracted
