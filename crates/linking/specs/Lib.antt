pub mod Links
pub mod Working
pub mod Growth
pub mod Parties
pub mod Requiring
pub mod Fan
pub mod Direct
pub mod Exact
