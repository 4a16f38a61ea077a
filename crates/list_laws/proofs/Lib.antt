pub mod Elements
pub mod Entries
pub mod Firsts
pub mod Rising
pub mod Tests
