pub mod Legs
pub mod Calls
pub mod Faults
pub mod inside
