pub mod Clean
pub mod Findings
pub mod Laws
pub mod Rows
pub mod Inside
