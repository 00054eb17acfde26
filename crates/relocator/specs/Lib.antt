pub mod LoneCertificates
pub mod Placing
pub mod Relocations
pub mod Working
