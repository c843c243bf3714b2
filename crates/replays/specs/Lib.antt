pub mod Replay
pub mod Passes
pub mod Promises
pub mod Examples
