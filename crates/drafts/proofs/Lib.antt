pub mod Adopting
pub mod Drafting
