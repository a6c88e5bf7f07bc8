pub mod Joined
pub mod Receipts
pub mod Audits
pub mod inside
