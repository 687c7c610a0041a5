pub mod Edits
pub mod Exported
pub mod Forms
pub mod Hundredths
pub mod Made
pub mod Names
pub mod Shown
pub mod Updates
