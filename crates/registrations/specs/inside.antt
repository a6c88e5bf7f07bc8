-- What the functions inside the crate owe one another. No public contract speaks of it.
pub mod Indexes
pub mod Stored
