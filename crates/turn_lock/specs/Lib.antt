pub mod Journals
pub mod Views
pub mod Locks
pub mod Passes
pub mod Tables
pub mod Working
