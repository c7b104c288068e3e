pub mod PrefixLaws
pub mod ChunkLaws
pub mod TreeLaws
pub mod SliceLaws
pub mod ReadLaws
