pub mod Front
pub mod Spread
pub mod NearLine
pub mod Whole
pub mod Held
