pub mod StatementsSound
pub mod StatementsComplete
mod Examples
pub mod Declared
pub mod Parted
pub mod Entered
pub mod Outer
