pub mod Stopping
pub mod Reasons
pub mod ReasonRead
pub mod ReasonLevel
pub mod ExpectedText
pub mod ReasonRows
