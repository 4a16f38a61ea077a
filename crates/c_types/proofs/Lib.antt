pub mod FunctionParts
pub mod ItemSteps
pub mod Marks
pub mod Orders
pub mod ProgramNames
pub mod ScopeTables
pub mod SpecifierViews
pub mod StatementSteps
pub mod TypeSets
mod TypingSamples
pub mod Typings
