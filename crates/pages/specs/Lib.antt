pub mod Rows
pub mod Pages
pub mod Examples
