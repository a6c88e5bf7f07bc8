pub mod Faults
pub mod Workers
pub mod Worlds
pub mod Orders
