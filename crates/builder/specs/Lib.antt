pub mod Reading
pub mod Building
pub mod Lefts
pub mod Lasting
pub mod Lines
pub mod Answers
pub mod Refusals
