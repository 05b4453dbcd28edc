pub mod Agreement
pub mod Behind
