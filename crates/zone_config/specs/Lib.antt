pub mod Networks
pub mod Keys
pub mod Ranges
pub mod Defaults
pub mod Terms
