pub mod Listing
pub mod Lines
pub mod Numbers
pub mod Refusing
