pub mod Recorded
pub mod Shown
pub mod Redoing
