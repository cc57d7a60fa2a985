pub mod Standing
pub mod Facts
