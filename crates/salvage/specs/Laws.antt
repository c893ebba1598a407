pub mod Mending
pub mod Repaired
pub mod Pass
pub mod Agree
pub mod Paste
pub mod Lent
pub mod Promises
pub mod Never
