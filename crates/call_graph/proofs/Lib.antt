pub mod Summarised
pub mod Placing
pub mod Reaching
