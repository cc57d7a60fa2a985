pub mod Target
pub mod Workout
