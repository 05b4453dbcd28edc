mod Immediates
mod Rows
mod Parts
mod Fitting
mod ReadBack
mod Taken
pub mod Laws
