pub mod Mean
mod Filled
pub mod Counted
pub mod Steps
pub mod Outcomes
pub mod Share
pub mod Invertible
pub mod Facts
pub mod Order
pub mod WinnerLaws
pub mod FloorFold
pub mod FloorLaws
pub mod Penalty
pub mod FloorKept
