pub mod Values
pub mod Steps
pub mod Runs
pub mod Addresses
pub mod StepFaults
pub mod FieldMemories
