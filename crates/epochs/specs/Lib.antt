pub mod Modes
pub mod Epochs
pub mod Keep
pub mod English
pub mod Examples
