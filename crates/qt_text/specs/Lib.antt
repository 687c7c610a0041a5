pub mod Texts
pub mod User
