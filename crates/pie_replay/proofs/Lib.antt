pub mod Stages
pub mod FullSegments
pub mod Causes
pub mod Verdicts
pub mod Operands
