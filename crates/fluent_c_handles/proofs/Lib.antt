mod Gathered
pub mod Family
mod Inserted
mod Asked
pub mod Giving
mod Line
mod Ordered
mod RecordRows
mod ToldRows
pub mod Counting
pub mod Going
pub mod Writing
pub mod Placing
pub mod Putting
pub mod Stocks
pub mod From
pub mod Global
pub mod Handles
pub mod Limits
pub mod Opens
pub mod Alike
pub mod AskedBy
pub mod Places
pub mod Found
pub mod FirstGiven
