-- The code of a function as a whole.
use Rattle.std.proofs.Common.{◌≡◌, ℕ, ◌<◌, ◌≤◌, Bool, true, false, not, [], ◌∷◌, ◌++◌, length, Option, refl, sym, ap}
use Rattle.std.proofs.Common.{◌∙◌, subst, arith}
use Rattle.std.specs.Prelude.{◌==◌, ◌&&◌, ◌||◌, nat_lt, nat_le}
use Rattle.std.proofs.lemmas.Bool.Decides.{nat_tests}
use Rattle.c_tree.specs.declared.typed.FunDef.{FunDef}
use Rattle.c_tree.specs.declared.typed.Typed.{Typed}
use Rattle.tac_ir.specs.WellFormed.{all_of, has_label, instruction_fits, labels_differ, ends_well, turns_fit}
use Rattle.tac_ir.specs.WellFormed.{return_fits, signature_of, begins_with, param_kinds, function_fits}
use Rattle.tac_ir.specs.declared.code.TacFun.{TacFun}
use Rattle.tac_ir.specs.declared.code.TacInstr.TheVariants as instr
use Rattle.tac_emit.specs.declared.emitter.Emitter.{Emitter}
use Rattle.tac_emit.specs.Emitted.{WellListed, Follows, Ends, IsWell, Pushed, open_labels}
use Rattle.tac_emit.proofs.Wells.{and_true, keeps_same, pushed_has, or_left}

-- ---- where the code begins

pub begins_well : (p : Typed) (d : FunDef) (e : Emitter) → e.code.items ≡ [] → IsWell p d e
begins_well p d e empty = record {
  made = λ l s. absurd (let q : false ≡ true = ap (λ z. has_label z l) (sym empty) ∙ s.is in cc);
  completes = λ kinds whole rest ends follows well.
      subst (λ z. WellListed p d kinds whole (z ++ rest)) (sym empty) well;
}

-- ---- where it ends

not_open : (lt s : Bool) → lt ≡ true → (lt && not s) ≡ false → s ≡ true
not_open lt true h e = refl
not_open true false h e = absurd cc
not_open false false h e = absurd cc

module _ (p : Typed) (d : FunDef) (a b : Emitter) (v : Option ℕ) (closed : (l : ℕ) → open_labels a l ≡ false)
    (h : Pushed a b (instr.Return v)) where
  all_stand : (l : ℕ) → l < a.labels → has_label b.code.items l ≡ true
  unfolding open_labels
  all_stand l lt =
      let m : nat_lt l a.labels ≡ true = grind (arith, nat_tests) in
      pushed_has a b (instr.Return v) h l
      ∙ or_left (has_label a.code.items l) (false || false)
      (not_open (nat_lt l a.labels) (has_label a.code.items l) m (closed l))

  -- code in which each label stands, and a Return behind it, is well formed
  pub ends_whole : IsWell p d a → return_fits p d b.kinds.items b.code.items (signature_of p d.of) v ≡ true →
      WellListed p d b.kinds.items b.code.items b.code.items
  ends_whole w fits =
      let ends : Ends a b.kinds.items b.code.items =
      record { keeps = keeps_same a.kinds.items b.kinds.items h.kinds; stand = all_stand } in
      let follows : Follows a (instr.Return v ∷ []) = record {
        opens = λ l o. absurd (let q : false ≡ true = sym (closed l) ∙ o.is in cc);
        once = λ l s. refl;
      } in
      let last : WellListed p d b.kinds.items b.code.items (instr.Return v ∷ []) = record {
        fits = and_true (return_fits p d b.kinds.items b.code.items (signature_of p d.of) v) true fits refl;
        differ = refl;
        ends = refl;
        turns = refl;
      } in
      subst (λ z. WellListed p d b.kinds.items b.code.items z) (sym h.code)
      (w.completes b.kinds.items b.code.items (instr.Return v ∷ []) ends follows last)

same_as : (m n : ℕ) → m ≡ n → (m == n) ≡ true
same_as m n e = grind (arith, nat_tests)

-- a function whose code is such, and whose first temps are its parameters, is well formed
pub function_is : (p : Typed) (d : FunDef) (f : TacFun) → f.params ≡ length d.params → f.params ≤ f.temps →
    length f.kinds ≡ f.temps → begins_with f.kinds (param_kinds p d) ≡ true
    → WellListed p d f.kinds f.code f.code → function_fits p d f ≡ true
function_is p d f params few temps begins w =
    let a : (f.params == length d.params) ≡ true = same_as f.params (length d.params) params in
    let b : nat_le f.params f.temps ≡ true = grind (arith, nat_tests) in
    let c : (length f.kinds == f.temps) ≡ true = same_as (length f.kinds) f.temps temps in
    let r : (f.params == length d.params && nat_le f.params f.temps) ≡ true =
    and_true (f.params == length d.params) (nat_le f.params f.temps) a b in
    let s = and_true _ (length f.kinds == f.temps) r c in
    let t = and_true _ (begins_with f.kinds (param_kinds p d)) s begins in
    let u = and_true _ (all_of (instruction_fits p d f.kinds f.code) f.code) t w.fits in
    let v = and_true _ (labels_differ f.code) u w.differ in
    and_true _ (turns_fit false f.code) (and_true _ (ends_well f.code) v w.ends) w.turns
