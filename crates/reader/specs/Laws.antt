pub mod Pieces
pub mod Paste
