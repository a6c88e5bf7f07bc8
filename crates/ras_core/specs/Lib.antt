pub mod Faults
pub mod Tallies
pub mod Running
pub mod Replacing
pub mod Runs
pub mod inside
