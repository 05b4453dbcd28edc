pub mod Decoding
pub mod Rounding
pub mod Encoding
pub mod Packing
