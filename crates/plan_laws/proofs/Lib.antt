pub mod Sites
pub mod Inlines
pub mod Retargets
pub mod Naming
pub mod Adding
pub mod GroupsFit
pub mod Passing
pub mod Levels
pub mod Waves
pub mod Chosen
pub mod Ranking
pub mod Keys
pub mod Accepted
pub mod GroupRanking
pub mod Members
pub mod OrderLaws
pub mod DeadRoutines
pub mod InstrLimits
pub mod RoutineLimits
pub mod Sizes
pub mod Spending
mod ChoiceSamples
mod GroupSamples
mod PlanSamples
