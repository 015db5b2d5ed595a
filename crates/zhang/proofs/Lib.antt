pub mod Exact
pub mod Units
pub mod Lowest
pub mod Given
pub mod WholeNumber
pub mod Turns
pub mod Cases
