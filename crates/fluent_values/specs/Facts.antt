-- Facts of the definitions, proved, for the proofs of this crate and of those above. No contract cites them.
pub mod Keyed
pub mod Ordered
pub mod Pairs
pub mod Setting
pub mod Reading
pub mod Took
pub mod Outputs
