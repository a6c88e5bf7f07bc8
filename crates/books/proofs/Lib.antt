pub mod Additions
pub mod Courses
pub mod Entries
pub mod Spending
