pub mod Emits
pub mod EmitsExpressions
pub mod EmitsStatements
pub mod EmitsSwitches
pub mod LabelSteps
pub mod Whole
pub mod Settling
pub mod Routines
