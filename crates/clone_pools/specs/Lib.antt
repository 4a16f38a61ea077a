pub mod Growing
pub mod States
pub use Rattle.clone_groups.specs.Grouping
pub use Rattle.plan_laws.specs.Groups
pub use Rattle.plan_laws.specs.Plan
pub use Rattle.plan_pools.specs.Cloning
