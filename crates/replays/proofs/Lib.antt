pub mod Fine
pub mod Judging
pub mod Once
pub mod Replaying
pub mod Starting
