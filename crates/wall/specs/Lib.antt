pub mod Captions
pub mod Laws
pub mod Export
pub mod ExportSteps
