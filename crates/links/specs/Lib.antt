pub mod Build
pub mod Walk
pub mod Paths
pub mod Queue
pub mod Sweep
