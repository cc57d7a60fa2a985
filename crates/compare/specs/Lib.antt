pub mod Input
pub mod Answers
