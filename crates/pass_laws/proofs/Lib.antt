pub mod Adding
pub mod Mains
pub mod PassesMade
pub mod Worthy
