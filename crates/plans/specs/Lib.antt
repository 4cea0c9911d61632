pub mod Plans
pub mod Remaining
pub mod Covers
