-- What private functions and proofs cite.
pub mod Handed
pub mod Manner
