pub mod Outcomes
pub mod WholeRecords
