-- One level of a type.
pub use Rattle.c_type_levels.specs.declared.heads.Head.{Head}
pub use Rattle.c_type_levels.specs.Heads.{built, params_of}
