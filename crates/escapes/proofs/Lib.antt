pub mod OneLine
pub mod Undone
