pub mod Pieces
pub mod Layout
pub mod Memory
pub mod Rows
pub mod Certificates
pub mod Laws
pub mod Working
