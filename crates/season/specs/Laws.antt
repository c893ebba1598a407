pub mod Sums
pub mod Reports
pub mod Words
pub mod Joins
pub mod Share
pub mod Promises
pub mod Files
