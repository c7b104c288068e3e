pub mod Contents
pub mod Inside
pub mod Facts
