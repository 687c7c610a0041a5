pub mod Lawful
pub mod Cleared
pub mod Moves
