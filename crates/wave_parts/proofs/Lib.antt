pub mod Listed
pub mod Opened
pub mod Whole
