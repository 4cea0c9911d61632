pub mod Fitting
pub mod Asking
pub mod Soundness
