pub mod Pairings
pub mod Rules
pub mod Servings
pub mod Flips
pub mod Union
