pub mod Endings
pub mod Trees
pub mod Relations
pub mod Runs
pub mod Memories
pub mod Independence
