pub mod Loads
pub mod Pairs
