pub mod Checks
pub mod Bases
pub mod Judged
