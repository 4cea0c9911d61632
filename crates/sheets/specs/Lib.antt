pub mod Loads
pub mod Cells
pub mod Tables
pub mod Questions
pub mod Sizes
pub mod Sheets
pub mod Refusals
pub mod Calls
