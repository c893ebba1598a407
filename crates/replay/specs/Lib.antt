pub mod Compared
pub mod Tally
