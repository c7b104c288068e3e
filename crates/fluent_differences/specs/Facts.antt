-- Facts of places, for callers. No contract cites them.
pub mod PlaceTests
