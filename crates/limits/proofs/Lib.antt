pub mod Made
pub mod Numbers
pub mod Once
