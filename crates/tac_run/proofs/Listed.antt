-- Lists of temps.
use Rattle.std.proofs.Common.{◌≡◌, ℕ, zero, suc, List, [], ◌∷◌, ◌++◌, length, drop, map, Some, refl, ap, ◌∙◌}
use Rattle.std.specs.Prelude.{slice_set}
use Rattle.obj_mem.specs.declared.value.Value as public
use Rattle.obj_mem.specs.Values.{value_of}
use Rattle.cheri_c_sem.specs.Kinds.{zero_of}
use Rattle.tac_ir.specs.Effects.{kind_of}
use Rattle.tac_ir.specs.Meaning.{entry_temps}
use Rattle.tac_ir.specs.declared.code.TacKind.{TacKind}
use Rattle.tac_run.specs.Views.{vars_of}

-- a temp is set
pub vars_set : (vs : List public.Value) (t : ℕ) (v : public.Value) →
    vars_of (slice_set vs t v) ≡ slice_set (vars_of vs) t (Some (value_of v))
vars_set [] t v = refl
vars_set (w ∷ vs) zero v = refl
vars_set (w ∷ vs) (suc t) v = ap (λ os. Some (value_of w) ∷ os) (vars_set vs t v)

values_some : (vs : List public.Value) → vars_of vs ≡ map Some (map value_of vs)
values_some [] = refl
values_some (v ∷ vs) = ap (λ os. Some (value_of v) ∷ os) (values_some vs)

as_many : (vs : List public.Value) → length vs ≡ length (map value_of vs)
as_many [] = refl
as_many (v ∷ vs) = ap suc (as_many vs)

-- the temps at entry
pub entry_is : (vs : List public.Value) (kinds : List TacKind) →
    vars_of vs ++ map (λ k. Some (zero_of (kind_of k))) (drop (length vs) kinds) ≡ entry_temps kinds (map value_of vs)
entry_is vs kinds =
    ap (λ os. os ++ map (λ k. Some (zero_of (kind_of k))) (drop (length vs) kinds)) (values_some vs)
    ∙ ap (λ n. map Some (map value_of vs) ++ map (λ k. Some (zero_of (kind_of k))) (drop n kinds)) (as_many vs)
