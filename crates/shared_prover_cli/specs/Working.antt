pub mod Checking
pub mod Replies
pub mod Replying
pub mod Running
pub mod Scripting
pub mod Takings
pub mod Writings
