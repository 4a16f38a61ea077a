mod FirstBroken
mod MetConditions
pub mod RisingRows
pub mod ValidRoutines
