pub mod Counts
pub mod Kinds
pub mod Labels
pub mod StepCounts
