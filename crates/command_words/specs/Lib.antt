pub mod Limits
pub mod Numbers
pub mod Readings
pub mod Words
pub mod Working
