pub mod Again
pub mod Asked
pub mod Later
pub mod Latest
pub mod Lists
pub mod Room
pub mod Seasons
