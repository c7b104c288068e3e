-- Facts of the definitions, proved, for the proofs of this crate and of those above. No contract cites them.
pub mod Events
