pub mod Modulo
pub mod Forms
pub mod Laws
pub mod WordLaws
pub mod OperationLaws
