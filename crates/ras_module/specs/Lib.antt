pub mod Texts
pub mod DialledDigits
pub mod Aliases
pub mod Addresses
pub mod CallKeys
pub mod Rooms
pub mod Same
