-- What the functions inside the crate owe one another. No public contract speaks of it.
pub mod Parts
pub mod Written
pub mod Room
