pub mod Arranged
pub mod Write
pub mod Pass
pub mod Cases
pub mod Laws
