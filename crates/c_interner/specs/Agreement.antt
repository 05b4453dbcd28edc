-- When the lengths of two arrays agree.
pub use Rattle.c_type_levels.specs.declared.agreement.Lengths.TheVariants.{Equal, Compatible}
pub use Rattle.c_type_levels.specs.Agreement.{lengths_of}
