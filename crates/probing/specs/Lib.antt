pub mod Requests
pub mod Replies
pub mod Told
pub mod Sockets
pub mod Statuses
pub mod Asking
