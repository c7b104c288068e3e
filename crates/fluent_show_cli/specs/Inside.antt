-- How private functions stand to the definitions beside this file. No public contract cites these.
pub mod BundleView
pub mod OneRead
pub mod WholeRead
pub mod Said
pub mod OutputProgress
pub mod Comes
pub mod Ends
pub mod RunWith
