pub mod RangesKept
pub mod Staying
pub mod Deciding
