pub mod Index
pub mod Kinds
pub mod Heads
pub mod Entries
pub mod Checks
