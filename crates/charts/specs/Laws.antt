pub mod Draws
pub mod Edges
pub mod Wall
