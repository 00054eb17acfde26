pub mod Limits
pub mod Lines
pub mod Views
pub mod Scripts
pub mod Transcripts
pub mod OwnLines
pub mod Working
