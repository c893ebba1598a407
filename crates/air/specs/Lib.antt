pub mod Profile
pub mod Laws
