mod Given
mod Numbers
pub mod Same
mod Samples
