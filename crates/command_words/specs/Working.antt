pub mod Asking
pub mod FirstWords
