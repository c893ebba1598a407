pub mod Draws
pub mod Edges
pub mod Wall
pub mod Laws
