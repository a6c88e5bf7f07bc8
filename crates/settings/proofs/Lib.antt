pub mod Numbers
pub mod InRange
pub mod PoolLists
pub mod Listed
pub mod Places
pub mod NearKeys
