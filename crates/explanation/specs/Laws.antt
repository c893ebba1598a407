pub mod Contract
pub mod Solvables
pub mod Numbers
pub mod Reading
pub mod First
pub mod Second
