pub mod Tally
pub mod Season
pub mod Laws
