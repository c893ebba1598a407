pub mod Lines
pub mod Said
pub mod Tried
pub mod RunLaws
pub mod PackageLaws
pub mod SetLaws
pub mod Same
