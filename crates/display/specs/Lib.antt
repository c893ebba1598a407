pub mod Laws
pub mod PackageWriting
pub mod PackageLengths
pub mod Quoted
pub mod Stroke
pub mod Cases
pub mod StrokeShort
pub mod StrokeSizes
