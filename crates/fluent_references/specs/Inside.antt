pub mod Adding
pub mod Content
pub mod Filling
pub mod Hashed
pub mod LinkGrowth
pub mod LinkNumbers
