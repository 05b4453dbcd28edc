-- The end of a function's code.
use Rattle.std.proofs.Common.{◌≡◌, ℕ, ◌<◌, Bool, true, List, [], ◌∷◌, ◌++◌, length, Option, Some, None}
use Rattle.std.proofs.Common.{Result, Ok, Err, IfOk, refl, sym, ap, ◌∙◌, subst}
use Rattle.std.specs.Prelude.{nat_lt}
use Rattle.std.proofs.lemmas.Option.{slice_get_within}
use Rattle.std.proofs.lemmas.Bool.{ltb-true}
use Rattle.c_tree.specs.Views.{IsOrdered}
use Rattle.c_tree.specs.WellTyped.{FunctionFits}
use Rattle.c_tree.specs.declared.typed.FunDef.{FunDef}
use Rattle.c_tree.specs.declared.typed.Typed.{Typed}
use Rattle.tac_ir.specs.WellFormed.{all_of, instruction_fits, return_by, return_fits}
use Rattle.tac_ir.specs.declared.code.TacInstr.{TacInstr}
use Rattle.tac_ir.specs.declared.code.TacInstr.TheVariants as instr
use Rattle.tac_ir.specs.declared.code.TacKind.{TacKind}
use Rattle.tac_emit.specs.declared.emitter.Emitter.{Emitter}
use Rattle.lower_runs.specs.Functions.{end_code, HasEndTemp}
use Rattle.lower_runs.specs.Shortened.{IsShort, same, left, AreNeedless}
use Rattle.tac_emit.specs.Emitted.{HasKind, HasLeft, Pushed, WellListed}
use Rattle.tac_lower.specs.Nodes.{kept_as}
use Rattle.tac_lower.specs.Programs.{EndsWith, gives_in}
use Rattle.tac_emit.specs.Adding.{Emits, one}
use Rattle.tac_lower.specs.Signed.{given_kind}
use Rattle.tac_lower.specs.Trees.{signature_by}
use Rattle.tac_lower.proofs.Signatures.{signature_is}
use Rattle.tac_emit.proofs.Wells.{and_both}

-- a value is given, or none
pub ends_none : (a b : Emitter) → Pushed a b (instr.Return None) → EndsWith None a b
ends_none a b h = record {
  at = 0;
  room = tt;
  short = subst (λ z. IsShort b.code.items z) h.code same;
}

pub ends_some : (a m b : Emitter) (t : ℕ) (k : TacKind) → HasKind m t k → Emits a m 1 (one (instr.Const t k 0)) →
    Pushed m b (instr.Return (Some t)) → EndsWith (Some k) a b
ends_some a m b t k has f h =
    let lt = slice_get_within m.kinds.items t k has.there in
    let code : b.code.items ≡ a.code.items ++ end_code (Some k) t = h.code ∙ f.added.is (instr.Return (Some t) ∷ []) in
    record {
      at = t;
      room = subst (λ z. t < length z) (sym h.kinds) lt;
      short = subst (λ z. IsShort b.code.items z) code same;
    }

-- a run never comes behind a return
needless : (k : Option TacKind) (at : ℕ) → AreNeedless (end_code k at)
needless None at = tt
needless (Some k) at = tt

append_on : (xs ys zs : List TacInstr) → (xs ++ ys) ++ zs ≡ xs ++ (ys ++ zs)
append_on [] ys zs = refl
append_on (x ∷ xs) ys zs = ap (λ z. x ∷ z) (append_on xs ys zs)

all_behind : (f : TacInstr → Bool) (xs ys : List TacInstr) → all_of f (xs ++ ys) ≡ true → all_of f ys ≡ true
all_behind f [] ys h = h
all_behind f (x ∷ xs) ys h = all_behind f xs ys (and_both (f x) (all_of f (xs ++ ys)) h).1

module _ {p : Typed} {d : FunDef} (fits : FunctionFits p d) (o : IsOrdered p) where
  pub gives_is : gives_in p d ≡ kept_as fits.result
  gives_is = ap (λ z. (signature_by z).gives) fits.type_is

  -- a temp is given back where a value is
  returned : (kinds : List TacKind) (code : List TacInstr) (g : Option TacKind) (v : Option ℕ) →
      return_by p d kinds code (given_kind g) v ≡ true → (at : ℕ) × HasEndTemp g at (length kinds)
  returned kinds code None v h = (0, tt)
  returned kinds code (Some k) None h = absurd cc
  returned kinds code (Some k) (Some t) h = (t, ltb-true t (length kinds) (and_both (nat_lt t (length kinds)) _ h).0)

  pub ends_left : (e : Emitter) → HasLeft e → WellListed p d e.kinds.items e.code.items e.code.items →
      EndsWith (gives_in p d) e e
  ends_left e h w =
      let fit = instruction_fits p d e.kinds.items e.code.items in
      let cut : all_of fit (h.front ++ instr.Return h.value ∷ []) ≡ true =
      subst (λ z. all_of fit z ≡ true) h.is w.fits in
      let last = (and_both (fit (instr.Return h.value)) true
      (all_behind fit h.front (instr.Return h.value ∷ []) cut)).0 in
      let by : return_by p d e.kinds.items e.code.items (given_kind (kept_as fits.result)) h.value ≡ true =
      sym (ap (λ z. return_fits p d e.kinds.items e.code.items z h.value)
      (signature_is p o d.of fits.result fits.takes fits.type_is)) ∙ last in
      let r = returned e.kinds.items e.code.items (kept_as fits.result) h.value by in
      let end = end_code (gives_in p d) r.0 in
      record {
        at = r.0;
        room = subst (λ z. HasEndTemp z r.0 (length e.kinds.items)) (sym gives_is) r.1;
        short =
            let short = left h.front end h.value (needless (gives_in p d) r.0) in
            subst (λ z. IsShort z (e.code.items ++ end)) (sym h.is)
            (subst (λ z. IsShort (h.front ++ instr.Return h.value ∷ []) z)
            (sym (ap (λ z. z ++ end) h.is ∙ append_on h.front (instr.Return h.value ∷ []) end)) short);
      }

  pub ends_after : {T E : Type 0} (a m b : Emitter) (r : Result T E) (v : Option ℕ) (k : Option TacKind) →
      k ≡ kept_as fits.result → ((c : Emitter) → Pushed m c (instr.Return v) → EndsWith k a c) →
      IfOk r (λ _. Pushed m b (instr.Return v)) → IfOk r (λ _. EndsWith (gives_in p d) a b)
  ends_after a m b (Ok x) v k e h i = subst (λ z. EndsWith z a b) (e ∙ sym gives_is) (h b i)
  ends_after a m b (Err x) v k e h i = tt
