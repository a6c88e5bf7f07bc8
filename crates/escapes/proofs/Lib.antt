pub mod Escaped
pub mod Units
pub mod Writes
