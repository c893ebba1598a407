pub mod Wrote
pub mod Indent
