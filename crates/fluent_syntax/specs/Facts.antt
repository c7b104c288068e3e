-- Facts of the grammar, proved, for the proofs of this crate and of those above. No contract cites them.
pub mod Prefixes
pub mod Literals
pub mod LexicalPrefixes
pub mod Sound
pub mod LayoutTrees
pub mod Trees
pub mod OneLine
pub mod Rules
pub mod Chunked
