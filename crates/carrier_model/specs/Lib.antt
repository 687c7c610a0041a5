pub mod Cells
pub mod Lists
pub mod Info
pub mod Room
pub mod Steps
pub mod RiffForm
pub mod Gaps
pub mod Names
