pub mod NoDistortion
mod Turns
pub mod Descent
