pub mod Anywhere
pub mod FineRuns
pub mod Lines
pub mod Loaded
pub mod PairsRead
pub mod Whole
