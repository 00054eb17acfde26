pub mod Works
pub mod SharedWorks
pub mod Working
