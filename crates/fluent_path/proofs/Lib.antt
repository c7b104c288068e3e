pub mod Classed
