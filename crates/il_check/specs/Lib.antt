pub mod Conditions
pub use Rattle.il_core.specs.Operands
pub use Rattle.il_core.specs.Program
pub use Rattle.il_core.specs.Valid
