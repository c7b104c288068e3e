pub mod Among
pub mod Compared
pub mod Facts
pub mod Inside
