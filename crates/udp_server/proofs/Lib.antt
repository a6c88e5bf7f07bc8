pub mod Carrying
pub mod Counts
pub mod Each
pub mod Numbers
pub mod Sends
pub mod Sent
pub mod Steps
pub mod Ticks
