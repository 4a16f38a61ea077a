pub mod Setting
pub mod Lines
pub mod Fits
pub mod Written
pub mod SetAgain
pub mod ReadAgain
