pub mod Exact
pub mod Faults
pub mod Forms
pub mod Grammar
pub mod Sequences
pub mod Addresses
pub mod Aliases
