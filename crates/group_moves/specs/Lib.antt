pub mod Gathering
pub use Rattle.clone_groups.specs.Grouping
pub use Rattle.il_core.specs.Limits
pub use Rattle.il_core.specs.Shapes
pub use Rattle.plan_pools.specs.MoveLaws
pub use Rattle.plan_pools.specs.Retargeting
pub use Rattle.plan_laws.specs.Groups
