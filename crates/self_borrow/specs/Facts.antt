-- Facts of what is owned and borrowed, for walks of this crate and of those above. No contract cites them.
pub mod Steps
pub mod Words
