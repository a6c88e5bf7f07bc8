pub mod Endpoints
pub mod Nothing
