mod Declarations
mod Definitions
mod Expressions
mod Files
mod Fine
mod Holding
mod Linked
mod Links
mod Modules
mod Objects
mod Samples
mod Statements
mod States
pub mod Tables
mod Typings
