pub mod Ranks
pub mod Refusals
pub mod Replacing
