-- What calls on function types answer.
use Rattle.std.specs.Prelude.{◌≡◌, ℕ, List, map, Option, Some, None, option_map}
use Rattle.c_tree.specs.Layout.{bare, bare_of}
use Rattle.c_tree.specs.declared.typed.CType.{CType}
use Rattle.cheri_c_sem.specs.Types.{scalar_of}
use Rattle.tac_ir.specs.Effects.{kind_of}
use Rattle.tac_ir.specs.WellFormed as wf
use Rattle.tac_ir.specs.declared.signatures.Signature.{Signature}

-- the type behind one word `const`
abbrev pub IsConst : CType → Option ℕ → Type 0
IsConst c None = (go : ℕ → Option CType) → bare_of (Some c) go ≡ Some c
IsConst c (Some t) = (go : ℕ → Option CType) → bare_of (Some c) go ≡ go t

-- a function type of a list of types
abbrev pub meant : List CType → Signature → wf.Signature
meant types s = record {
  gives = option_map kind_of s.gives;
  params = map (λ q. wf.kind_or_int (scalar_of (bare types q))) s.params.now;
}

abbrev pub Signs : List CType → Option wf.Signature → Option Signature → Type 0
Signs types o None = o ≡ None
Signs types o (Some s) = o ≡ Some (meant types s)
