pub mod Front
pub mod Rows
pub mod Judged
pub mod Left
pub mod Places
pub mod Known
