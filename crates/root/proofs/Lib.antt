mod Rounds
mod Steps
mod Patterns
mod Exponents
pub mod RootLaws
pub mod Nearest
pub mod MachineRoot
pub mod NearestWhole
pub mod RootReaches
pub mod Squares
pub mod Summary
