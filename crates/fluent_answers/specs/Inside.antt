-- What private functions and proofs cite.
pub mod Raw
pub mod Given
pub mod Setting
