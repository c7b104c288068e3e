pub mod Made
pub mod Given
pub mod Inside
