mod TabLemmas
mod TagLemmas
mod CldrRows
mod CldrTable
mod RuleRuns
mod RuleValues
mod RuleLines
mod RuleDigits
mod RuleRows
pub mod EnglishRules
pub mod RuleRelations
