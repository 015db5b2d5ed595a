pub mod Ranges
pub mod Theorem
