-- What the code of calls and of copies asks of a program's types.
use Rattle.std.specs.Prelude.{◌≡◌, ℕ, ◌<◌, true, false, List, [], length, Some, slice_get, slice_index_or}
use Rattle.c_tree.specs.Layout.{Extent, extent}
use Rattle.c_tree.specs.Types.{compatible}
use Rattle.c_tree.specs.Typing.{Sound}
use Rattle.c_tree.specs.WellTyped.{type_in}
use Rattle.c_tree.specs.declared.typed.CType.{CType}
use Rattle.c_tree.specs.declared.typed.FunDef.{FunDef}
use Rattle.c_tree.specs.declared.typed.Typed.{Typed}
use Rattle.cheri_c_sem.specs.Expressions.{fits}
use Rattle.cheri_c_sem.specs.Types.{unit_of}
use Rattle.tac_ir.specs.WellFormed.{signature_of, signature_of_function, units_fit}

-- a function whose type is compatible with the one of a call may be called, and what may be called takes and gives what
-- that type says
pub record CallsFit (p : Typed) : Type 0 where
  pub compatibles : (f t : ℕ) (d : FunDef) → slice_get p.funs f ≡ Some d → t < length p.types →
      compatible (type_in p t) (type_in p d.of) ≡ true → slice_index_or (fits p [] t) f false ≡ true
  pub signatures : (f t : ℕ) → slice_index_or (fits p [] t) f false ≡ true →
      signature_of_function p f ≡ signature_of p t

abbrev pub SoundCallsFit : Type 0
SoundCallsFit = (p : Typed) → Sound p → CallsFit p

-- a struct or union is whole units of the length in which it is copied
abbrev pub CopiesFit : Type 0
CopiesFit = (types : List CType) (t : ℕ) (x : Extent) → extent types t ≡ Some x →
    units_fit x.size (unit_of x.align) ≡ true
