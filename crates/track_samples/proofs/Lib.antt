pub mod OnDisk
pub mod Slices
pub mod RunsLeft
pub mod SizesLeft
pub mod Ranged
pub mod Counted
pub mod Told
pub mod HeadsRead
