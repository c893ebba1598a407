pub mod Noted
pub mod Cored
pub mod Other
pub mod Rules
pub mod Demands
pub mod Laws
pub mod Cases
