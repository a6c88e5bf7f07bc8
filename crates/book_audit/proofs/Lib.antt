pub mod EntrySums
pub mod Leading
pub mod Joining
pub mod Places
pub mod GoodReceipts
pub mod WholeHistory
pub mod Remaining
