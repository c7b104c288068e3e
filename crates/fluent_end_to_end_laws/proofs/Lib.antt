pub mod Steps
pub mod Nothing
