pub mod Choice
pub mod Fallbacks
pub mod InTurn
pub mod Kept
pub mod LeafArguments
pub mod LocalArguments
pub mod Soles
pub mod TextElements
