pub mod Edition
pub mod Once
