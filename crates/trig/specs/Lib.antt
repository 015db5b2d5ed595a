pub mod Series
pub mod Answer
pub mod Exact
pub mod Bound
pub mod Theorem
