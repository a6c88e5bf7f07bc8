pub mod Dropping
pub mod Renewing
pub mod Retrying
pub mod Tasks
pub mod Calling
pub mod Choosing
pub mod Carrying
pub mod Asking
pub mod Noting
pub mod PlansFor
pub mod Waiting
pub mod Performing
pub mod Returning
pub mod Readying
mod Untold
