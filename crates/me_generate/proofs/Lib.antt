pub mod Growth
pub mod Lengths
pub mod Zeros
pub mod Below
pub mod Waves
pub mod Titles
