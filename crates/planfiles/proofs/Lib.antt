pub mod Steps
pub mod Records
pub mod Accepted
pub mod Back
