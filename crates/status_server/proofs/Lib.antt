pub mod Answered
pub mod Paged
pub mod SameAsked
pub mod Sent
pub mod Sited
