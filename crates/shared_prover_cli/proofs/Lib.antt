mod CodeCells
mod Endings
mod OneAnswer
mod OneOutcome
mod RunLemmas
mod ScriptLemmas
mod ScriptRun
mod ToldLemmas
pub mod CheckLemmas
pub mod TakenSoFar
pub mod VerdictStatus
