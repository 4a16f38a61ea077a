pub mod Asks
pub mod Calls
pub mod Faults
pub mod Files
pub mod Memory
pub mod Places
pub mod Taken
pub mod Told
