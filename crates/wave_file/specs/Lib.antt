pub mod Lawful
pub mod Map
pub mod Sized
pub mod Tests
pub mod Reads
pub mod Form
