pub mod Records
pub mod Kinds
pub mod Reading
pub mod Steps
pub mod Writing
pub mod Numbers
