pub mod Listed
pub mod Decided
pub mod PlaceLists
pub mod Gathering
pub mod Shared
