pub mod Lines
pub mod Adding
pub mod Taking
pub mod Stopping
pub mod Faults
pub mod Found
pub mod Coming
pub mod Began
