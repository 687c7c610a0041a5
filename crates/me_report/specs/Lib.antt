pub mod Checksums
pub mod Done
pub mod Findings
pub mod Lines
pub mod Report
