mod RowsIntegers
mod RowsPointers
mod RowsTyped
pub mod Same
pub mod SameExpressions
pub mod SameStatements
pub mod Turns
pub mod Unfold
pub mod Words
pub mod Gathered
