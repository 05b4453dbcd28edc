pub mod Inside
pub mod NullBounds
pub mod Laws
