pub mod Shapes
pub mod Places
pub mod Rows
pub mod Cuts
pub mod Sized
pub mod Planned
