pub mod Direct
pub mod Behind
pub mod Fan
