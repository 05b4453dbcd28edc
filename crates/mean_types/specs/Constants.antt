-- What a type's being const goes by.
use Rattle.std.specs.Prelude.{◌≡◌, ℕ, Bool, Some}
use Rattle.c_tree.specs.declared.typed.CType.{CType}
use Rattle.obj_mem.specs.Needs.{is_const_of}
use Rattle.mean_types.specs.declared.types.Constant.{Constant}
use Rattle.mean_types.specs.declared.types.Constant.TheVariants.{Known, As}

-- whether it is const, or the type that it is const as
abbrev pub IsConstantBy : CType → Constant → Type 0
IsConstantBy c (Known b) = (go : ℕ → Bool) → is_const_of (Some c) go ≡ b
IsConstantBy c (As t) = (go : ℕ → Bool) → is_const_of (Some c) go ≡ go t
