pub mod Report
pub mod Season
pub mod Words
pub mod Steps
pub mod Laws
