pub mod OnBook
pub mod OnWalk
pub mod Follows
