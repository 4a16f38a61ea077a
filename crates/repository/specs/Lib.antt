pub mod Filing
pub mod Record
pub use Rattle.outside.specs.Faults
