pub mod Offers
pub mod Sessions
pub mod SeenDesks
pub mod PassTurns
