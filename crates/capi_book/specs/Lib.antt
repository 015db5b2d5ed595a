pub mod Exported
pub mod Theorem
