pub mod Avi
pub mod Bytes
pub mod Makes
pub mod Movie
pub mod Rows
pub mod Stated
pub mod Titled
pub mod Wave
