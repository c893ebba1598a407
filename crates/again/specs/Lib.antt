pub mod Changes
pub mod Head
pub mod Joins
pub mod Mends
pub mod Seen
pub mod Sum
pub mod Walls
