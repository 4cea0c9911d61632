pub mod Tables
pub mod Distinct
pub mod Growing
pub mod Moving
pub mod Hall
