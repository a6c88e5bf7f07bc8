pub mod Bind
pub mod Fields
pub mod Pace
pub mod Requests
pub mod Shown
pub mod Arrivals
