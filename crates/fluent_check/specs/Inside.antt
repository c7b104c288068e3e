-- How private functions stand to the definitions beside this file. No public contract cites these.
pub mod Editions
pub mod Faultless
pub mod Looks
pub mod Places
