pub mod Join
pub mod Promises
pub mod Trees
pub mod Examples
