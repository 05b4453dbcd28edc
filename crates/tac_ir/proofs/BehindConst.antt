-- Types behind the words `const`.
use Rattle.std.proofs.Common.{◌≡◌, ℕ, zero, suc, ◌-◌, ◌<◌, ◌≤◌, true, false, ltb, List, length, get_or, Some, None}
use Rattle.std.proofs.Common.{refl, sym, ap, ◌∙◌, arith}
use Rattle.std.specs.Prelude.{slice_get}
use Rattle.std.proofs.lemmas.Bool.{ltb-true, ltb-false}
use Rattle.std.proofs.lemmas.Option.{slice_get-get_or, slice_get_past}
use Rattle.c_tree.specs.declared.typed.CType.{CType}
use Rattle.c_tree.specs.Layout.{bare_of, bare_within}

pub bare_step : (types : List CType) (d t : ℕ) → 0 < d →
    bare_within d types t ≡ bare_of (slice_get types t) (bare_within (d - 1) types)
unfolding bare_within
bare_step types zero t h = absurd (omega arith)
bare_step types (suc d) t h = let e : suc d - 1 ≡ d = omega arith in rw e refl

pub bare_zero : (types : List CType) (d t : ℕ) → d ≤ 0 → bare_within d types t ≡ None
unfolding bare_within
bare_zero types zero t h = refl
bare_zero types (suc d) t h = absurd (omega arith)

pub there : {A : Type 0} (xs : List A) (k : ℕ) (x : A) → true ≡ ltb k (length xs) → x ≡ get_or xs k x →
    slice_get xs k ≡ Some x
there xs k x lt e = slice_get-get_or xs k x (ltb-true k (length xs) (sym lt)) ∙ ap Some (sym e)

pub past : {A : Type 0} (xs : List A) (k : ℕ) → false ≡ ltb k (length xs) → slice_get xs k ≡ None
past xs k lt = slice_get_past xs k (ltb-false k (length xs) (sym lt))
