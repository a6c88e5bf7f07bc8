pub mod Zones
pub mod Standings
pub mod Records
pub mod Again
