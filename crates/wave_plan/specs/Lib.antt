pub mod Frame
pub mod Framed
pub mod Widened
pub mod Planned
