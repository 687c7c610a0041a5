pub mod Rows
pub mod Found
pub mod Entries
pub mod Checks
