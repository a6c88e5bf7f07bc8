pub mod Parting
pub mod Placing
pub mod Words
