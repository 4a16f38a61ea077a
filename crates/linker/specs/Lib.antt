pub mod Linking
pub use Rattle.sym_tables.specs.Table
