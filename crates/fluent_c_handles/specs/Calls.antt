-- What the calls may do of a bundle that is kept, and answer.
pub mod Adding
pub mod Declaring
pub mod Finding
pub mod Formatting
pub mod Opening
