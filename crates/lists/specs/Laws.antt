pub mod Ways
pub mod Edges
