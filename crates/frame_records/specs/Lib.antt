pub mod Apart
pub mod Accepted
pub mod Class
