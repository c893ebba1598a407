pub mod Graphs
pub mod Working
pub mod Drawing
pub mod Files
pub mod Checked
pub mod Exact
pub mod Cases
pub mod Laws
