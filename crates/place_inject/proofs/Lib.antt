mod Puts
mod Contents
pub mod Wrote
mod Kept
mod Changed
mod Checked
pub mod Bits
mod Sound
pub mod Known
mod Reached
pub mod Storing
mod Numbered
pub mod Loading
pub mod Elsewhere
pub mod Lying
pub mod FramesKept
pub mod StoresKeep
pub mod Reaching
pub mod Stepping
pub mod ReadBack
pub mod Results
pub mod Spilling
pub mod Returning
pub mod Calling
mod Extents
mod Starting
mod Starts
mod Turned
pub mod Pointing
pub mod Getting
mod Reshaped
pub mod Altered
pub mod Leaving
pub mod Locals
pub mod Entering
pub mod Zeroing
pub mod Granules
pub mod Registers
pub mod Copying
pub mod Growing
pub mod Wholes
pub mod Tables
mod Rows
pub mod Outgoing
pub mod Older
