pub mod Frames
pub mod ScopeView
pub mod Scoped
pub mod Inside
