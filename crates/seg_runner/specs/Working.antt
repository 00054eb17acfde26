pub mod Running
pub mod Seen
