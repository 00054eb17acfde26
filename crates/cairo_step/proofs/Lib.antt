pub mod Words
pub mod Flags
pub mod Cased
pub mod Steps
pub mod Equated
