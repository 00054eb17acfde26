pub mod Feeding
pub mod Reading
pub mod Refusals
pub mod Spelling
pub mod Working
