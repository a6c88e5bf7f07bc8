pub mod Entries
pub mod Gathered
pub mod Parted
pub mod Readings
pub mod Written
