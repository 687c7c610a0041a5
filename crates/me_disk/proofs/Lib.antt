pub mod Does
pub mod Log
pub mod Runs
pub mod Sound
pub mod Holds
mod Fronts
pub mod Reopened
pub mod CarriedOut
pub mod Since
pub mod Windows
pub mod Counted
