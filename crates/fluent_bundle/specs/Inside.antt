-- How private functions stand to the definitions beside this file. No public contract cites these.
pub mod Asked
pub mod Outputs
pub mod Unchanged
pub mod AddAnswers
