pub mod Parsing
pub mod EndpointTypes
pub mod Requests
pub mod Messages
