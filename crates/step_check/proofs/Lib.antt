pub mod Outcomes
pub mod Redoing
