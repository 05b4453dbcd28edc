pub mod Fields
pub mod File
pub mod Headers
pub mod Image
pub mod Parts
pub mod Reading
pub mod Refusal
pub mod Count
