pub mod Walks
pub mod Slots
