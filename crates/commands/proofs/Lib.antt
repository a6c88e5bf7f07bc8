pub mod Beginnings
pub mod Fronts
pub mod Given
pub mod Naming
pub mod Told
