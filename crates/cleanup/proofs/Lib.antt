pub mod Folding
pub mod Joining
pub mod Keeping
pub mod Spreading
pub mod Thinning
pub mod Valid
pub mod Words
