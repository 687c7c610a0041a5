pub mod Outcomes
pub mod Slots
pub mod Spans
pub mod Stepped
pub mod Spliced
pub mod Ruled
pub mod Overlaid
