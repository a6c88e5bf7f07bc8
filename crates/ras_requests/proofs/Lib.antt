pub mod Planned
pub mod Resizing
