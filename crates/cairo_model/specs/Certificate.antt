pub mod Records
pub mod Acceptance
