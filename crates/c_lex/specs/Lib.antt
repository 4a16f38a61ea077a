pub mod Bytes
pub mod Spelling
pub mod Pieces
pub mod Text
pub mod Spans
pub mod Machine
pub mod Reading
pub use Rattle.hlo_num.specs.Words
