-- What the functions inside the crate owe one another. No public contract speaks of it.
pub mod Stored
pub mod Sums
pub mod Counted
