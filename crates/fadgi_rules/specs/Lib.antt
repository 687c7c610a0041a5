pub mod Changed
pub mod Days
pub mod Findings
pub mod Items
pub mod Lines
pub mod Looked
pub mod Present
pub mod Rows
