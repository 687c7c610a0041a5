pub mod Short
pub mod Table
pub mod Read
pub mod Set
