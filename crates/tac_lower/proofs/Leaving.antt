-- Code whose last instruction is a Return.
use Rattle.std.proofs.Common.{◌≡◌, ℕ, ◌<◌, ◌≤◌, Bool, true, false, not, List, [], ◌∷◌, ◌++◌, length, get_or, Option}
use Rattle.std.proofs.Common.{Some, None, refl, sym, ap, ◌∙◌, subst, arith, length-append, ⊎_elim}
use Rattle.std.specs.Prelude.{nat_lt, ◌&&◌, ◌||◌, slice_get}
use Rattle.std.proofs.lemmas.Bool.{cases_lt}
use Rattle.std.proofs.lemmas.Bool.Decides.{nat_tests}
use Rattle.std.proofs.Math.ListN.{get_or-append}
use Rattle.std.proofs.Math.Seq.{get_or-append_seam}
use Rattle.std.proofs.lemmas.Option.{slice_get_within, get_or_from_slice_get}
use Rattle.ck_int.specs.declared.kinds.IntKind.TheVariants as int
use Rattle.c_tree.specs.declared.typed.FunDef.{FunDef}
use Rattle.c_tree.specs.declared.typed.Typed.{Typed}
use Rattle.cheri_c_sem.specs.Compatible.{same_bool}
use Rattle.tac_ir.specs.Effects.{kind_of, kind_at}
use Rattle.tac_ir.specs.Meaning.{is_label}
use Rattle.tac_ir.specs.WellFormed.{Signature, all_of, has, has_label, same_kind, instruction_fits, label_is_new}
use Rattle.tac_ir.specs.WellFormed.{labels_differ, ends_well, is_turn, turn_fits, turns_fit, return_by, return_fits}
use Rattle.tac_ir.specs.WellFormed.{signature_of}
use Rattle.tac_ir.specs.declared.code.TacInstr.{TacInstr}
use Rattle.tac_ir.specs.declared.code.TacInstr.TheVariants as instr
use Rattle.tac_ir.specs.declared.code.TacKind.{TacKind}
use Rattle.tac_ir.specs.declared.code.TacKind.TheVariants as kind
use Rattle.tac_emit.specs.declared.emitter.Emitter.{Emitter}
use Rattle.tac_emit.specs.Emitted.{Keeps, WellListed, Follows, Ends, IsWell, HasLeft, open_labels}
use Rattle.tac_lower.specs.Signed.{given_kind}
use Rattle.tac_emit.proofs.Instructions.{same_kind_same}
use Rattle.tac_emit.proofs.Wells.{and_true, and_both, keeps_same, keeps_then, keeps_more, get_last}

-- ---- a Return less at the end

all_front : (f : TacInstr → Bool) (xs ys : List TacInstr) → all_of f (xs ++ ys) ≡ true
    → (all_of f xs ≡ true) × (all_of f ys ≡ true)
all_front f [] ys h = (refl, h)
all_front f (x ∷ xs) ys h =
    let b = and_both (f x) (all_of f (xs ++ ys)) h in
    let r = all_front f xs ys b.1 in
    (and_true (f x) (all_of f xs) b.0 r.0, r.1)

last_has : (xs : List TacInstr) (v : Option ℕ) (l : ℕ) → has_label (xs ++ instr.Return v ∷ []) l ≡ has_label xs l
last_has [] v l = refl
last_has (x ∷ xs) v l = ap (λ z. is_label x l || z) (last_has xs v l)

new_front : (x : TacInstr) (xs : List TacInstr) (v : Option ℕ) → label_is_new x (xs ++ instr.Return v ∷ []) ≡ true
    → label_is_new x xs ≡ true
new_front (instr.Label l) xs v h = ap not (sym (last_has xs v l)) ∙ h
new_front x xs v h = refl

differ_front : (xs : List TacInstr) (v : Option ℕ) → labels_differ (xs ++ instr.Return v ∷ []) ≡ true
    → labels_differ xs ≡ true
differ_front [] v h = refl
differ_front (x ∷ xs) v h =
    let b = and_both (label_is_new x (xs ++ instr.Return v ∷ [])) (labels_differ (xs ++ instr.Return v ∷ [])) h in
    and_true (label_is_new x xs) (labels_differ xs) (new_front x xs v b.0) (differ_front xs v b.1)

turn_front : (t : Bool) (x : TacInstr) (xs : List TacInstr) (v : Option ℕ)
    → turn_fits t x (xs ++ instr.Return v ∷ []) ≡ true → turn_fits t x xs ≡ true
turn_front t (instr.Jump l) xs v h = ap (λ z. same_bool t (not z)) (sym (last_has xs v l)) ∙ h
turn_front t (instr.Branch on when l) xs v h = ap (λ z. same_bool t (not z)) (sym (last_has xs v l)) ∙ h
turn_front t x xs v h = h

turns_front : (t : Bool) (xs : List TacInstr) (v : Option ℕ) → turns_fit t (xs ++ instr.Return v ∷ []) ≡ true
    → turns_fit t xs ≡ true
turns_front t [] v h = (and_both (not t) true h).0
turns_front t (x ∷ xs) v h =
    let b = and_both (turn_fits t x (xs ++ instr.Return v ∷ [])) (turns_fit (is_turn x) (xs ++ instr.Return v ∷ []))
    h in
    and_true (turn_fits t x xs) (turns_fit (is_turn x) xs) (turn_front t x xs v b.0) (turns_front (is_turn x) xs v b.1)

ends_last : (xs : List TacInstr) (v : Option ℕ) → ends_well (xs ++ instr.Return v ∷ []) ≡ true
ends_last [] v = refl
ends_last (x ∷ []) v = refl
ends_last (x ∷ y ∷ xs) v = ends_last (y ∷ xs) v

dropped : (p : Typed) (d : FunDef) (kinds : List TacKind) (whole xs : List TacInstr) (v : Option ℕ)
    → WellListed p d kinds whole (xs ++ instr.Return v ∷ []) → ends_well xs ≡ true → WellListed p d kinds whole xs
dropped p d kinds whole xs v h e = record {
  fits = (all_front (instruction_fits p d kinds whole) xs (instr.Return v ∷ []) h.fits).0;
  differ = differ_front xs v h.differ;
  ends = e;
  turns = turns_front false xs v h.turns;
}

-- ---- a temp that is there whatever comes behind is one of the first

other : TacKind → TacKind
other (kind.Int k) = kind.Cap false
other (kind.Cap s) = kind.Int int.I32

other_differs : (k : TacKind) → same_kind (kind_of (other k)) (kind_of k) ≡ false
unfolding other
other_differs (kind.Int k) = refl
other_differs (kind.Cap s) = refl

module _ (p : Typed) (d : FunDef) (whole : List TacInstr) where
  has_at : (ks : List TacKind) (t : ℕ) (k : TacKind) → slice_get ks t ≡ Some k → has p d ks whole t (kind_of k) ≡ true
  has_at ks t k h =
      let lt : t < length ks = slice_get_within ks t k h in
      let m : nat_lt t (length ks) ≡ true = grind (arith, nat_tests) in
      and_true (nat_lt t (length ks)) (same_kind (kind_at ks t) (kind_of k)) m
      (ap (λ z. same_kind z (kind_of k)) (ap kind_of (get_or_from_slice_get ks t k (kind.Int int.I32) h))
      ∙ same_kind_same (kind_of k))

  first_has : (ks : List TacKind) (k : TacKind) (t : ℕ) → has p d (ks ++ k ∷ []) whole t (kind_of k) ≡ true
      → has p d ((ks ++ other k ∷ []) ++ k ∷ []) whole t (kind_of k) ≡ true → has p d ks whole t (kind_of k) ≡ true
  first_has ks k t f g =
      let none = kind.Int int.I32 in
      let a = and_both (nat_lt t (length (ks ++ k ∷ []))) (same_kind (kind_at (ks ++ k ∷ []) t) (kind_of k)) f in
      let b = and_both (nat_lt t (length ((ks ++ other k ∷ []) ++ k ∷ [])))
      (same_kind (kind_at ((ks ++ other k ∷ []) ++ k ∷ []) t) (kind_of k)) g in
      let within : t < length (ks ++ k ∷ []) = let q = a.0 in grind (arith, nat_tests) in
      let size = length-append ks (k ∷ []) in
      ⊎_elim
      (λ (lt : t < length ks).
      let m : nat_lt t (length ks) ≡ true = grind (arith, nat_tests) in
      and_true (nat_lt t (length ks)) (same_kind (kind_at ks t) (kind_of k)) m
      (ap (λ z. same_kind z (kind_of k)) (ap kind_of (sym (get_or-append ks (k ∷ []) none t lt))) ∙ a.1))
      (λ (le : length ks ≤ t).
      let is : length ks ≡ t = omega arith in
      let longer : length ks < length (ks ++ other k ∷ []) = omega (arith, length-append ks (other k ∷ [])) in
      let here : get_or ((ks ++ other k ∷ []) ++ k ∷ []) (length ks) none ≡ other k =
      get_or-append (ks ++ other k ∷ []) (k ∷ []) none (length ks) longer
      ∙ get_or-append_seam ks (other k) [] none in
      let q : get_or ((ks ++ other k ∷ []) ++ k ∷ []) t none ≡ other k =
      subst (λ z. get_or ((ks ++ other k ∷ []) ++ k ∷ []) z none ≡ other k) is here in
      absurd (let z : false ≡ true = sym (other_differs k) ∙ ap (λ z. same_kind (kind_of z) (kind_of k)) (sym q)
      ∙ b.1 in cc))
      (cases_lt t (length ks))

-- ---- the whole code

not_open : (lt s : Bool) → lt ≡ true → (lt && not s) ≡ false → s ≡ true
not_open lt true h e = refl
not_open true false h e = absurd cc
not_open false false h e = absurd cc

module _ (p : Typed) (d : FunDef) (e : Emitter) (w : IsWell p d e) (closed : (l : ℕ) → open_labels e l ≡ false)
    (h : HasLeft e) where
  abbrev code : List TacInstr
  code = e.code.items

  all_stand : (l : ℕ) → l < e.labels → has_label code l ≡ true
  unfolding open_labels
  all_stand l lt =
      let m : nat_lt l e.labels ≡ true = grind (arith, nat_tests) in
      not_open (nat_lt l e.labels) (has_label code l) m (closed l)

  module _ (s : Signature) (is : signature_of p d.of ≡ Some s) where
    behind : (ks : List TacKind) (v : Option ℕ) → Keeps e.kinds.items ks → return_by p d ks code s.gives v ≡ true
        → WellListed p d ks code (code ++ instr.Return v ∷ [])
    behind ks v keeps fits =
        let ends : Ends e ks code = record { keeps = keeps; stand = all_stand } in
        let follows : Follows e (instr.Return v ∷ []) =
        record {
          opens = λ l o. absurd (let q : false ≡ true = sym (closed l) ∙ o.is in cc);
          once =
              λ l o. refl;
        } in
        let last : WellListed p d ks code (instr.Return v ∷ []) = record {
          fits = and_true (return_fits p d ks code (signature_of p d.of) v) true
              (ap (λ z. return_fits p d ks code z v) is ∙ fits) refl;
          differ = refl;
          ends = refl;
          turns = refl;
        } in
        w.completes ks code (instr.Return v ∷ []) ends follows last

    given : (ks : List TacKind) (v : Option ℕ) → Keeps e.kinds.items ks → return_by p d ks code s.gives v ≡ true
        → return_by p d ks code s.gives h.value ≡ true
    given ks v keeps fits =
        let fit = instruction_fits p d ks code in
        let all = (all_front fit code (instr.Return v ∷ []) (behind ks v keeps fits).fits).0 in
        let cut : all_of fit (h.front ++ instr.Return h.value ∷ []) ≡ true =
        subst (λ z. all_of fit z ≡ true) h.is all in
        let one = and_both (fit (instr.Return h.value)) true
        (all_front fit h.front (instr.Return h.value ∷ []) cut).1 in
        sym (ap (λ z. return_fits p d ks code z h.value) is) ∙ one.0

    ended : (v : Option ℕ) → return_by p d e.kinds.items code s.gives v ≡ true → WellListed p d e.kinds.items code code
    ended v fits =
        dropped p d e.kinds.items code code v
        (behind e.kinds.items v (keeps_same e.kinds.items e.kinds.items refl) fits)
        (subst (λ z. ends_well z ≡ true) (sym h.is) (ends_last h.front h.value))

    by_value : (k : TacKind) (v : Option ℕ) → return_by p d (e.kinds.items ++ k ∷ []) code (Some (kind_of k)) v ≡ true
        → return_by p d ((e.kinds.items ++ other k ∷ []) ++ k ∷ []) code (Some (kind_of k)) v ≡ true
        → return_by p d e.kinds.items code (Some (kind_of k)) v ≡ true
    by_value k None f g = absurd cc
    by_value k (Some t) f g = first_has p d code e.kinds.items k t f g

    by_kind : (g : Option TacKind) → s.gives ≡ given_kind g → WellListed p d e.kinds.items code code
    by_kind None q = ended None (ap (λ z. return_by p d e.kinds.items code z None) q)
    by_kind (Some k) q =
        let one = e.kinds.items ++ k ∷ [] in
        let front = e.kinds.items ++ other k ∷ [] in
        let two = front ++ k ∷ [] in
        let to_one = keeps_more e.kinds.items k in
        let to_two = keeps_then e.kinds.items front two (keeps_more e.kinds.items (other k)) (keeps_more front k) in
        let first = given one (Some (length e.kinds.items)) to_one
        (ap (λ z. return_by p d one code z (Some (length e.kinds.items))) q
        ∙ has_at p d code one (length e.kinds.items) k (get_last e.kinds.items k)) in
        let second =
        given two (Some (length front)) to_two (ap (λ z. return_by p d two code z (Some (length front))) q
        ∙ has_at p d code two (length front) k (get_last front k)) in
        let same_one = ap (λ z. return_by p d one code z h.value) q in
        let same_two = ap (λ z. return_by p d two code z h.value) q in
        ended h.value (ap (λ z. return_by p d e.kinds.items code z h.value) q
        ∙ by_value k h.value (sym same_one ∙ first) (sym same_two ∙ second))

    -- code in which each label stands, and which ends with a Return, is well formed
    pub left_whole : (g : Option TacKind) → s.gives ≡ given_kind g
        → WellListed p d e.kinds.items e.code.items e.code.items
    left_whole g q = by_kind g q
