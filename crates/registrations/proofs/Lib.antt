pub mod Agreement
pub mod Consistent
mod Counting
pub mod Covering
pub mod Deciding
pub mod Digits
pub mod Due
mod Ends
pub mod Indexes
mod Legs
pub mod Order
mod Room
pub mod Rows
pub mod Same
pub mod Stored
pub mod Swapped
pub mod Tables
pub mod Unused
pub mod Walks
