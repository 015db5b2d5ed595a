pub mod Library
pub mod Bound
