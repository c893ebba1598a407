pub mod Settled
pub mod Shaped
pub mod Reared
pub mod Graphed
pub mod Uses
