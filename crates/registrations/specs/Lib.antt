pub mod Registry
pub mod Agreement
pub mod Faults
pub mod Numbers
pub mod Silence
pub mod inside
