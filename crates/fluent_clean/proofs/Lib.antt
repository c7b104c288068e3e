pub mod Acyclic
pub mod NoErrors
pub mod Counted
pub mod SetTerms
pub mod Deepened
pub mod Cleaned
pub mod Grounded
pub mod RowProofs
pub mod Among
pub mod Settled
pub mod Tables
pub mod Explained
pub mod Looked
pub mod CountedEnds
mod Missing
mod Round
