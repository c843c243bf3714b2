pub mod Filter
pub mod Tables
pub mod Lent
pub mod Examples
