pub mod Given
pub mod Grouped
pub mod Written
