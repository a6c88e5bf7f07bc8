mod Ending
mod Following
mod MadePools
pub mod OneRun
mod Reaching
pub mod ReadingBack
mod Runs
mod Whole
