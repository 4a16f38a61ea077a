pub mod Callers
pub mod Composing
pub mod Members
pub mod States
pub mod Tested
pub mod Turned
