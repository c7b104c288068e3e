-- Facts of the definitions, proved, for the proofs of this crate and of those above. No contract cites them.
pub mod Views
pub mod Lists
pub mod Happening
pub mod Reporting
pub mod Naming
