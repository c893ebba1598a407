pub mod Told
pub mod Numbers
pub mod Labels
pub mod Both
pub mod Ways
pub mod Counting
pub mod Filling
pub mod Answers
