pub mod Growing
pub mod Laws
pub mod Settled
pub mod Typed
