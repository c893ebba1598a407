pub mod Locks
pub mod Ways
pub mod Kinds
pub mod Silent
