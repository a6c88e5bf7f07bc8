-- What the functions inside the crate owe one another. No public contract speaks of it.
pub mod Stored
pub mod Due
pub mod Births
pub mod Told
pub mod ToldTexts
pub mod Rows
