pub mod Changed
pub mod Effective
pub mod Fills
pub mod Fits
pub mod Kept
pub mod Raised
pub mod Names
pub mod Ranges
mod Rows
pub mod Same
