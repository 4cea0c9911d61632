pub mod Graphs
pub mod Covers
pub mod Rows
pub mod Search
