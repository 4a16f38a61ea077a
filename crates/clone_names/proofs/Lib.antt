mod Names
mod Roots
