pub mod Inlined
pub mod Marks
pub mod Stopped
pub mod Usable
pub mod Within
