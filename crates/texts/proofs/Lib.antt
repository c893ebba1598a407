pub mod Copy
pub mod Eight
