pub mod Audits
pub mod Checks
pub mod Inputs
pub mod KeyLines
pub mod PassedKeys
pub mod Replays
