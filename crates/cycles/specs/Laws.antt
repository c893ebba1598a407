pub mod Lowest
pub mod Walks
pub mod Found
