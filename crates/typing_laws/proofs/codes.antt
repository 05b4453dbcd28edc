pub mod Declarations
pub mod Declarators
pub mod Derived
pub mod Expressions
pub mod Files
pub mod Statements
pub mod Stepping
