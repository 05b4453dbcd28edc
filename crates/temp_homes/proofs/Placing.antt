-- Places in a function's code, by how many instructions stand before them.
use Rattle.std.proofs.Common.{◌≡◌, ℕ, suc, ◌<◌, Bool, true, false, List, [], ◌∷◌, ◌++◌, length, Some, ◌⊎◌}
use Rattle.std.proofs.Common.{inl, inr, refl, sym, ap, ◌∙◌, subst, arith, if◌then◌else◌}
use Rattle.std.specs.Prelude.{slice_get}
use Rattle.std.proofs.lemmas.Bool.{eqb-true}
use Rattle.std.proofs.lemmas.List.{append_assoc, length-append}
use Rattle.tac_ir.specs.Intervals.{IsAt}
use Rattle.tac_ir.specs.Meaning.{is_label}
use Rattle.tac_ir.specs.Temps.{behind}
use Rattle.tac_ir.specs.declared.code.TacInstr.{TacInstr}
use Rattle.tac_ir.specs.declared.code.TacInstr.TheVariants as instr
use Rattle.temp_homes.specs.Keeping as reaches
use Rattle.temp_homes.specs.Keeping.{Reaches}

-- the end of some code stands behind so many instructions
pub record StandsAt (whole : List TacInstr) (n : ℕ) (end : List TacInstr) : Type 0 where
  pub before : List TacInstr
  pub is : whole ≡ before ++ end
  pub many : length before ≡ n

pub at_entry : (whole : List TacInstr) → StandsAt whole 0 whole
at_entry whole = record { before = []; is = refl; many = refl }

-- its first instruction, and the end behind that
item : (before : List TacInstr) (i : TacInstr) (is : List TacInstr) →
    slice_get (before ++ i ∷ is) (length before) ≡ Some i
item [] i is = refl
item (x ∷ xs) i is = item xs i is

pub first : (whole : List TacInstr) (n : ℕ) (i : TacInstr) (is : List TacInstr) → StandsAt whole n (i ∷ is) →
    IsAt whole (suc n) i
first whole n i is p = (
  n,
  refl,
  ap (λ z. slice_get z n) p.is ∙ ap (λ k. slice_get (p.before ++ i ∷ is) k) (sym p.many) ∙ item p.before i is,
)

pub next : (whole : List TacInstr) (n : ℕ) (i : TacInstr) (is : List TacInstr) → StandsAt whole n (i ∷ is) →
    StandsAt whole (suc n) is
next whole n i is p = record {
  before = p.before ++ i ∷ [];
  is = p.is ∙ sym (append_assoc p.before (i ∷ []) is);
  many = let e = p.many in omega (arith, length-append p.before (i ∷ []));
}

-- ---- behind a label

the_label : (i : TacInstr) (l : ℕ) → is_label i l ≡ true → i ≡ instr.Label l
the_label (instr.Label k) l e = ap (λ z. instr.Label z) (eqb-true k l e)
the_label i l e = absurd (cc)

-- Behind a label of the end at place n: that label stands behind n, where there is one, and what is behind it there
pub record Leads (whole : List TacInstr) (l n : ℕ) (end : List TacInstr) : Type 0 where
  pub at : ℕ
  pub place : StandsAt whole at end
  pub label : (end ≡ []) ⊎ ((n < at) × IsAt whole at (instr.Label l))

pub leads : (whole : List TacInstr) (l n : ℕ) (is : List TacInstr) → StandsAt whole n is →
    Leads whole l n (behind l is)
leads whole l n [] p = record { at = n; place = p; label = inl refl }
leads whole l n (i ∷ is) p = by (is_label i l) refl (leads whole l (suc n) is (next whole n i is p))
  where
    label_at : is_label i l ≡ true → IsAt whole (suc n) (instr.Label l)
    label_at e = subst (λ z. IsAt whole (suc n) z) (the_label i l e) (first whole n i is p)

    sooner : (at : ℕ) → (behind l is ≡ []) ⊎ ((suc n < at) × IsAt whole at (instr.Label l)) →
        (behind l is ≡ []) ⊎ ((n < at) × IsAt whole at (instr.Label l))
    sooner at (inl e) = inl e
    sooner at (inr h) = inr (let o = h.0 in omega arith, h.1)

    by : (b : Bool) → is_label i l ≡ b → Leads whole l (suc n) (behind l is) →
        Leads whole l n (if b then is else behind l is)
    by true e h = record { at = suc n; place = next whole n i is p; label = inr (omega arith, label_at e) }
    by false e h = record { at = h.at; place = h.place; label = sooner h.at h.label }

-- ---- where control comes

pub placed : (whole is : List TacInstr) → Reaches whole is → (n : ℕ) × StandsAt whole n is
placed whole is reaches.begins = (0, at_entry whole)
placed whole is (reaches.onward {i = i} {is = js} h r) =
    let p = placed whole (i ∷ js) r in (suc p.0, next whole p.0 i js p.1)
placed whole is (reaches.ahead {i = i} {is = js} l h r) =
    let p = placed whole (i ∷ js) r in
    let d = leads whole l (suc p.0) js (next whole p.0 i js p.1) in
    (d.at, d.place)
placed whole is (reaches.back l h r) = let d = leads whole l 0 whole (at_entry whole) in (d.at, d.place)

-- each end stands at one place
pub same_place : (whole is : List TacInstr) (m n : ℕ) → StandsAt whole m is → StandsAt whole n is → m ≡ n
same_place whole is m n p q =
    let a = p.many in
    let b = q.many in
    let e : length (p.before ++ is) ≡ length (q.before ++ is) = ap length (sym p.is ∙ q.is) in
    omega (arith, length-append p.before is, length-append q.before is)
