pub mod Bound
mod ExpressionSamples
pub mod ExpressionViews
mod LinkedSamples
pub mod Objects
mod Samples
mod StatementSamples
pub mod StatementViews
