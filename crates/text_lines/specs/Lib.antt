pub mod Lines
pub mod Words
pub mod Numerals
pub use Rattle.hlo_num.specs.Name
