pub mod Rows
pub mod Making
pub mod Flags
pub mod Seeing
pub mod Flipping
pub mod Servings
pub mod Settling
pub mod Joining
