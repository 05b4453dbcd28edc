pub mod Comments
pub mod Known
pub mod Marks
pub mod Plain
