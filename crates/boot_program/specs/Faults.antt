pub mod Records
pub mod Rules
pub mod Tasks
pub mod Causes
