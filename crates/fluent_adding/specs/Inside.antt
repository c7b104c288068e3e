pub mod WaitingEntries
pub mod AddingSteps
