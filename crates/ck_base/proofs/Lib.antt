pub mod Fronts
mod NamedFiles
