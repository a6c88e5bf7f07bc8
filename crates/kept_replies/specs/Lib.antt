pub mod Bounded
pub mod Keys
pub mod Told
pub mod Kept
pub mod Faults
pub mod inside
