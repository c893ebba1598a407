pub mod Settings
pub mod Change
pub mod Judged
pub mod Laws
pub mod Cases
