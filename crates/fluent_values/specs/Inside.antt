pub mod Inserted
pub mod Merging
