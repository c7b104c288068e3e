mod Asking
mod Given
mod Reading
mod Splits
mod Told
