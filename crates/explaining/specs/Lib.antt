pub mod Parts
pub mod Requests
pub mod Names
pub mod Places
pub mod Messages
pub mod Lines
