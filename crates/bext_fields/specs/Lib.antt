pub mod Table
pub mod Change
