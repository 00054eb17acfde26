pub mod Lines
pub mod Serving
pub mod Runs
pub mod Working
