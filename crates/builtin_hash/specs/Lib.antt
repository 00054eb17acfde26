pub mod Chains
pub mod Instances
pub mod Programs
