pub mod Preferences
pub mod Numbers
pub mod Reach
pub mod Searches
