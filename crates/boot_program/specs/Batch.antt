pub mod Limits
pub mod Parcels
pub mod Output
pub mod Acceptance
pub mod Standing
pub mod Order
