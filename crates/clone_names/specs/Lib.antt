pub mod Made
pub use Rattle.hlo_num.specs.Name
pub use Rattle.il_core.specs.Limits
pub use Rattle.il_core.specs.Program
pub use Rattle.plan_laws.specs.Plan
