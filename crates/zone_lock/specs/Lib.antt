pub mod Seats
pub mod Held
pub mod Turns
pub mod Listings
pub mod Faults
pub mod Views
