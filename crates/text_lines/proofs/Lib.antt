pub mod WordSplits
pub mod LineSplits
pub mod Decimals
pub mod Spaceless
