pub mod Order
pub mod Linked
pub mod State
pub mod Held
pub mod Examples
