pub mod Sum
pub mod Worker
pub use Rattle.named_lock.specs.Known
pub use Rattle.named_lock.specs.Pass
