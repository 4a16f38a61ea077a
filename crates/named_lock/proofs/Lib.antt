pub mod Passes
pub mod Views
pub mod Handed
pub mod Moves
pub mod Cuts
pub mod Ends
