pub mod Equal
pub mod NoOther
