pub mod Walk
pub mod Headers
