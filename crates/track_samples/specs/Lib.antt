pub mod Tables
pub mod Places
pub mod Left
pub mod Told
