pub mod Dialled
pub mod Octets
