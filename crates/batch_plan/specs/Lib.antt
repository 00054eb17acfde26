pub mod Cuts
pub mod Parts
pub mod Plans
pub mod WorkedPlans
pub mod Working
