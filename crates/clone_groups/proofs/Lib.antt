mod Accepting
mod Cloned
mod Clones
mod Filling
mod FixedAt
mod Gathered
mod InPlace
mod Joining
pub mod Members
mod Moving
mod Noting
mod Ranked
mod Tables
