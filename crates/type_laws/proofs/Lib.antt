mod Expressions
mod FileScope
pub mod Functions
pub mod Going
pub mod Keeping
pub mod Modules
mod Statements
mod Typings
