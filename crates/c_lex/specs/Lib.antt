pub mod Fronts
pub mod Lexemes
pub mod Pieces
pub mod Reader
pub mod Spelled
pub mod Bases
