pub mod Added
pub mod Choice
pub mod Once
pub mod Pages
pub mod Rows
pub mod Table
