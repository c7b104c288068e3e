pub mod CatalogView
pub mod Reports
