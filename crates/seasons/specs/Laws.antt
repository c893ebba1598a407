pub mod TallyWays
pub mod Tally
pub mod SeasonWays
pub mod Season
