pub mod Machine
pub mod Pie
pub mod Certificate
pub mod ReplayRefusals
pub mod Refusals
