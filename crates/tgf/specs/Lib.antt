pub mod Laws
pub mod Lines
pub mod Read
pub mod Lent
pub mod Steps
pub mod Cases
