pub mod Formats
pub mod Table
pub mod Encoding
pub mod Lookup
pub mod Decoding
