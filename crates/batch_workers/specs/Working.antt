pub mod Rounds
pub mod SharedRounds
