pub mod IdleDesks
