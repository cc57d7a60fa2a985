pub mod Updates
