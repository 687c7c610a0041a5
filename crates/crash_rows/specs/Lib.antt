pub mod Worked
pub mod Tables
