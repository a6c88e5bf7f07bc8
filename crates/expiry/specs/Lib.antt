pub mod Due
pub mod inside
