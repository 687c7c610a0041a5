pub mod Lines
pub mod Markup
pub mod Table
pub mod Written
