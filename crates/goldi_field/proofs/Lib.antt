pub mod Inverses
pub mod Order
pub mod Pigeonhole
pub mod Powers
pub mod Prime
