pub mod Scenes
pub mod Acts
pub mod Interleavings
