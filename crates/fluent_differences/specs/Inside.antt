-- How private functions stand to the definitions beside this file. No public contract cites these.
pub mod Names
