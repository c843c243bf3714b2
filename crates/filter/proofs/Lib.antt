pub mod Noting
pub mod Finding
pub mod Flagged
pub mod Filling
pub mod Bits
pub mod Once
pub mod Walking
