pub mod Hands
pub mod Loaders
pub mod Turns
pub mod Waves
