pub mod ResourceView
