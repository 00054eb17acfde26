pub mod Transitions
pub mod Working
