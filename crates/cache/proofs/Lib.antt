pub mod Once
pub mod Widening
