pub mod LineBytes
pub mod MadeScripts
