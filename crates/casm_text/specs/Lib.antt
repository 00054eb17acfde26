pub mod Tokens
pub mod Statements
pub mod Words
pub mod Lines
pub mod Refusals
pub mod Listings
pub mod Working
