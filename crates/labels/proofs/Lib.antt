pub mod Scanned
pub mod Local
pub mod Marked
pub mod Ways
