pub mod Found
mod Raise
mod Rows
pub mod Laid
