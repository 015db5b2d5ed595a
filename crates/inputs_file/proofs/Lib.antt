pub mod Cuts
pub mod Wholes
pub mod Texts
pub mod LineLaws
pub mod TextLaws
pub mod Lists
pub mod FileLaws
