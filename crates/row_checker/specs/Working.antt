pub mod Walks
pub mod Chunks
pub mod Stages
pub mod Outputs
pub mod Tasks
pub mod Instances
