pub mod Buffers
pub mod Causes
pub mod Ends
pub mod Limits
