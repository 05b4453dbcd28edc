pub mod Copies
pub mod Items
pub mod Order
pub mod Renumbering
pub mod Standing
