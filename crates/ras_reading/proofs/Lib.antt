pub mod Each
pub mod Firsts
pub mod Kept
pub mod Meaning
pub mod Pads
