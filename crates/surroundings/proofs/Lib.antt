pub mod FlushedRecords
pub mod Waiting
