pub mod Members
pub mod Schedules
