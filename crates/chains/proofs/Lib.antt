pub mod Newest
pub mod Chained
pub mod Counted
pub mod Once
