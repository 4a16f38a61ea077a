pub mod Entities
pub mod Listing
pub mod Sound
pub mod Symbols
pub mod Table
pub use Rattle.il_core.specs.Limits
