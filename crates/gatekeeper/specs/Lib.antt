pub mod Attendants
pub mod Clocks
pub mod Endings
pub mod Recorders
pub mod Reports
pub mod Serves
