pub mod LegLemmas
pub mod StoredCalls
pub mod Leaving
pub mod Soundness
pub mod Deciding
pub mod KeptSums
pub mod CountedCalls
pub mod Numbered
