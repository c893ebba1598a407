pub mod Explained
pub mod Silent
pub mod Edition
pub mod Once
