pub mod Opened
pub mod Tells
