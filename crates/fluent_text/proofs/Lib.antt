pub mod Prefix
mod Hexadecimal
mod Unescapes
mod EscapeRows
