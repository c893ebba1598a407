pub mod Marking
pub mod Leads
pub mod Reading
pub mod Texts
