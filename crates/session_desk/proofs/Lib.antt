pub mod Adding
pub mod Mine
pub mod Seen
pub mod Knowing
pub mod SeenFacts
pub mod Turning
