pub mod Known
pub mod Rules
pub mod Slot
pub mod Keeps
pub mod Steps
pub mod Pass
