pub mod BundleView
pub mod Formatted
pub mod Calls
pub mod CallRows
pub mod Facts
pub mod Inside
