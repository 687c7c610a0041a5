pub mod Cells
pub mod Columns
pub mod Items
pub mod Law
pub mod Readings
pub mod Rows
pub mod Sound
pub mod Written
