pub mod Beginnings
pub mod Causes
pub mod Elapsed
pub mod Endings
pub mod Faults
pub mod Probes
pub mod Signals
pub mod Zones
