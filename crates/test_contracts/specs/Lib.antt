pub mod Alone
pub mod Composed
pub mod Fixtures
pub mod Lines
