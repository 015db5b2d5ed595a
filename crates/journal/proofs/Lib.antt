mod Totals
pub mod CountLaws
pub mod DigitLaws
pub mod Examples
pub mod FieldLaws
pub mod Fronts
pub mod Numbers
pub mod Refused
pub mod ReportLaws
pub mod Summary
pub mod Unique
pub mod Whole
mod Bytes
mod Found
mod Fits
mod Parts
mod Reported
mod Stores
