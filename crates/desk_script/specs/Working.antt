pub mod Ahead
pub mod Numbers
pub mod Reading
pub mod Views
