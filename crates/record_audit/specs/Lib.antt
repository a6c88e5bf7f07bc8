pub mod Told
pub mod Records
pub mod Written
pub mod Lines
pub mod Audits
pub mod inside
