pub mod Owned
pub mod Loans
pub mod Facts
