pub mod Cycles
pub mod Laws
