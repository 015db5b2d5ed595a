pub mod Zhang
pub mod Theorem
pub mod Plate
pub mod Table
pub mod Whole
