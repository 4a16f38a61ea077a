mod Conversions
mod Expressions
mod FileScope
mod Functions
mod Growing
mod Judging
mod Laying
mod Lists
pub mod Modules
mod Names
mod Samples
mod Statements
mod Typings
