pub mod FourTests
pub mod Parting
pub mod Numbers
pub mod Names
