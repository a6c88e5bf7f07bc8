pub mod FourNumbers
pub mod LineWords
mod LinesWritten
mod MoreEntries
mod MoreSteps
pub mod NameTexts
pub mod ReadLines
pub mod WholeZones
