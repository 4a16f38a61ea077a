pub mod PassLaws
pub mod Worth
