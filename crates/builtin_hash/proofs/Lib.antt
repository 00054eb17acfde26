pub mod ChainLemmas
pub mod InstanceLemmas
pub mod ProgramLemmas
