pub mod Layouts
pub mod Rows
pub mod Stores
pub mod Templates
pub mod Refusals
pub mod Calls
pub mod Laws
