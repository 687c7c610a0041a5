pub mod Lows
pub mod Runs
pub mod Rounds
