pub mod Asked
pub mod Alike
pub mod Extended
pub mod Relabel
pub mod Asks
pub mod Laws
pub mod Cases
