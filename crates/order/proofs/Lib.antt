pub mod Laws
pub mod Planned
pub mod Count
pub mod Within
