pub mod Floatless
pub mod InOrder
pub mod Once
pub mod ReportProofs
pub mod RuleProofs
pub mod Sorted
pub mod Told
pub mod UriProofs
