pub mod Commands
pub mod Faults
pub mod Given
pub mod Requests
pub mod Rows
pub mod Words
