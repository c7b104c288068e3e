-- Facts of lines and columns, of lists and of targets, for callers. No contract cites them.
pub mod LinesOn
pub mod Growing
pub mod Targets
