pub mod Frames
pub mod Numbers
pub mod Told
pub mod Answered
pub mod Rowed
pub mod Placed
pub mod Widened
pub mod Stays
