pub mod Beginning
pub mod Causes
pub mod First
pub mod Going
pub mod Lifting
pub mod Pruned
pub mod Standing
pub mod Whole
