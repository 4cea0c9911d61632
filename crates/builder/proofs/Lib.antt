pub mod Marks
pub mod Steps
pub mod Taking
pub mod Reaching
pub mod Turns
pub mod Calls
pub mod Lasts
