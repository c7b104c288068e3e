pub mod Listing
pub mod Reached
pub mod Sharing
