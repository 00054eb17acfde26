pub mod FieldFaults
pub mod Equations
pub mod Laws
pub mod Working
