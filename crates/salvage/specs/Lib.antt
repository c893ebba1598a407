pub mod Salvage
pub mod Lent
pub mod Pass
pub mod Writing
pub mod Laws
pub mod Cases
pub mod NeverCases
