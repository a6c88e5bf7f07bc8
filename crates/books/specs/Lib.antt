pub mod Books
pub mod Totals
pub mod Chapters
