pub mod Accepted
pub mod Limits
pub mod Down
pub mod Generator
