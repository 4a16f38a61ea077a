pub mod Clones
pub mod Halted
pub mod Left
pub mod Room
pub mod Trails
