mod Fills
mod Rest
mod Tracks
