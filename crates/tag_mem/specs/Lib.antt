pub mod Areas
pub mod Numbers
pub mod Memory
pub mod Regions
pub mod Packed
pub mod Granules
pub mod Lending
