pub mod Places
pub mod Needs
pub mod Asked
pub mod Columns
pub mod Facts
pub mod PlaceView
pub mod NeedsView
pub mod Inside
