pub mod Grammar
pub mod Values
pub mod Reading
pub mod View
pub mod Theorem
