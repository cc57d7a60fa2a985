pub mod Laws
pub mod Many
pub mod Answers
