pub mod Name
pub mod Operators
pub mod Words
