pub mod Table
pub mod Ways
pub mod Records
pub mod Promises
