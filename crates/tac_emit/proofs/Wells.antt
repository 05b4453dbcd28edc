-- Code stays well formed where an instruction is added.
use Rattle.std.proofs.Common.{◌≡◌, ℕ, ◌+◌, zero, suc, ◌<◌, ◌≤◌, Bool, true, false, not, List}
use Rattle.std.proofs.Common.{[], ◌∷◌, ◌++◌, length, Some}
use Rattle.std.proofs.Common.{refl, sym, ap, ◌∙◌, subst, arith, append_assoc, length-append}
use Rattle.std.specs.Prelude.{◌==◌, ◌&&◌, ◌||◌, nat_lt, slice_get, Result, Ok, Err, IfOk}
use Rattle.std.proofs.lemmas.Bool.Decides.{nat_tests}
use Rattle.c_tree.specs.declared.typed.FunDef.{FunDef}
use Rattle.c_tree.specs.declared.typed.Typed.{Typed}
use Rattle.cheri_c_sem.specs.Compatible.{same_bool}
use Rattle.tac_ir.specs.Meaning.{is_label}
use Rattle.tac_ir.specs.WellFormed.{all_of, has_label, is_temp, instruction_fits, labels_differ, label_is_new}
use Rattle.tac_ir.specs.WellFormed.{ends_well, turns_fit, turn_fits}
use Rattle.tac_ir.specs.declared.code.TacInstr.{TacInstr}
use Rattle.tac_ir.specs.declared.code.TacInstr.TheVariants as instr
use Rattle.tac_ir.specs.declared.code.TacKind.{TacKind}
use Rattle.tac_emit.specs.declared.emitter.Emitter.{Emitter}
use Rattle.tac_emit.specs.Emitted.{HasKind, is_capability, HasInt, HasCapability, Keeps, open_labels, Stands}
use Rattle.tac_emit.specs.Emitted.{WellListed, Follows, Ends, IsWell, Built, Grown, Made, Pushed, Adds, SameKind}
use Rattle.tac_emit.specs.Emitted.{IsTemp, Entered, Filled}

-- ---- truth values

pub and_true : (a b : Bool) → a ≡ true → b ≡ true → (a && b) ≡ true
and_true true b e h = h
and_true false b e h = absurd cc

pub and_both : (a b : Bool) → (a && b) ≡ true → (a ≡ true) × (b ≡ true)
and_both true b h = (refl, h)
and_both false b h = absurd cc

pub or_left : (a b : Bool) → a ≡ true → (a || b) ≡ true
or_left true b e = refl
or_left false b e = absurd cc

pub or_right : (a b : Bool) → b ≡ true → (a || b) ≡ true
or_right true b e = refl
or_right false b e = e

pub same_number : (k : ℕ) → (k == k) ≡ true
same_number k = grind (arith, nat_tests)

or_assoc : (a b c : Bool) → ((a || b) || c) ≡ (a || (b || c))
or_assoc true b c = refl
or_assoc false b c = refl

-- ---- labels

pub has_append : (xs ys : List TacInstr) (l : ℕ) → has_label (xs ++ ys) l ≡ (has_label xs l || has_label ys l)
has_append [] ys l = refl
has_append (x ∷ xs) ys l =
    ap (λ b. is_label x l || b) (has_append xs ys l) ∙ sym (or_assoc (is_label x l) (has_label xs l) (has_label ys l))

-- ---- an instruction before well-formed code

-- it is no label, jump, branch or turn
abbrev pub is_plain : TacInstr → Bool
is_plain (instr.Label l) = false
is_plain (instr.Jump l) = false
is_plain (instr.Branch on when l) = false
is_plain instr.Turn = false
is_plain i = true

pub no_label : (i : TacInstr) (l : ℕ) → is_plain i ≡ true → is_label i l ≡ false
no_label (instr.Label k) l h = absurd cc
no_label i l h = refl

module _ (p : Typed) (d : FunDef) (kinds : List TacKind) (whole : List TacInstr) where
  abbrev pub fit : TacInstr → Bool
  fit = instruction_fits p d kinds whole

  abbrev pub Well : List TacInstr → Type 0
  Well list = WellListed p d kinds whole list

  ends_cons : (i : TacInstr) (is : List TacInstr) → ends_well is ≡ true → ends_well (i ∷ is) ≡ true
  ends_cons i [] h = absurd cc
  ends_cons i (j ∷ is) h = h

  plain_new : (i : TacInstr) (is : List TacInstr) → is_plain i ≡ true → label_is_new i is ≡ true
  plain_new (instr.Label l) is h = absurd cc
  plain_new i is h = refl

  plain_turns : (i : TacInstr) (is : List TacInstr) → is_plain i ≡ true → turns_fit false is ≡ true →
      turns_fit false (i ∷ is) ≡ true
  plain_turns (instr.Label l) is h t = absurd cc
  plain_turns (instr.Jump l) is h t = absurd cc
  plain_turns (instr.Branch on when l) is h t = absurd cc
  plain_turns instr.Turn is h t = absurd cc
  plain_turns i is h t = t

  pub well_plain : (i : TacInstr) (is : List TacInstr) → is_plain i ≡ true → fit i ≡ true → Well is → Well (i ∷ is)
  well_plain i is plain h r = record {
    fits = and_true (fit i) (all_of fit is) h r.fits;
    differ = and_true (label_is_new i is) (labels_differ is) (plain_new i is plain) r.differ;
    ends = ends_cons i is r.ends;
    turns = plain_turns i is plain r.turns;
  }

  pub well_label : (l : ℕ) (is : List TacInstr) → has_label is l ≡ false → Well is → Well (instr.Label l ∷ is)
  well_label l is new r = record {
    fits = r.fits;
    differ = and_true (not (has_label is l)) (labels_differ is) (ap not new) r.differ;
    ends = ends_cons (instr.Label l) is r.ends;
    turns = r.turns;
  }

  pub well_branch : (on : ℕ) (when : Bool) (l : ℕ) (is : List TacInstr) → is_temp p d kinds whole on ≡ true →
      has_label whole l ≡ true → has_label is l ≡ true → Well is → Well (instr.Branch on when l ∷ is)
  well_branch on when l is temp known later r = record {
    fits = and_true (is_temp p d kinds whole on && has_label whole l) (all_of fit is)
        (and_true (is_temp p d kinds whole on) (has_label whole l) temp known) r.fits;
    differ = r.differ;
    ends = ends_cons (instr.Branch on when l) is r.ends;
    turns = and_true (turn_fits false (instr.Branch on when l) is) (turns_fit false is)
        (ap (λ b. same_bool false (not b)) later) r.turns;
  }

  pub well_jump : (l : ℕ) (is : List TacInstr) → has_label whole l ≡ true → has_label is l ≡ true → Well is →
      Well (instr.Jump l ∷ is)
  well_jump l is known later r = record {
    fits = and_true (has_label whole l) (all_of fit is) known r.fits;
    differ = r.differ;
    ends = ends_cons (instr.Jump l) is r.ends;
    turns = and_true (turn_fits false (instr.Jump l) is) (turns_fit false is)
        (ap (λ b. same_bool false (not b)) later) r.turns;
  }

  pub well_back : (l : ℕ) (is : List TacInstr) → has_label whole l ≡ true → has_label is l ≡ false → Well is →
      Well (instr.Turn ∷ instr.Jump l ∷ is)
  well_back l is known later r = record {
    fits = and_true (has_label whole l) (all_of fit is) known r.fits;
    differ = r.differ;
    ends = ends_cons (instr.Turn) (instr.Jump l ∷ is) (ends_cons (instr.Jump l) is r.ends);
    turns = and_true (turn_fits true (instr.Jump l) is) (turns_fit false is)
        (ap (λ b. same_bool true (not b)) later) r.turns;
  }

-- ---- what is kept

pub keeps_same : (xs ys : List TacKind) → ys ≡ xs → Keeps xs ys
keeps_same xs ys e = record { kept = λ t k h. subst (λ z. slice_get z t ≡ Some k) (sym e) h }

pub keeps_then : (xs ys zs : List TacKind) → Keeps xs ys → Keeps ys zs → Keeps xs zs
keeps_then xs ys zs f g = record { kept = λ t k h. g.kept t k (f.kept t k h) }

get_more : (xs : List TacKind) (y : TacKind) (t : ℕ) (k : TacKind) → slice_get xs t ≡ Some k →
    slice_get (xs ++ y ∷ []) t ≡ Some k
get_more [] y t k h = absurd cc
get_more (x ∷ xs) y zero k h = h
get_more (x ∷ xs) y (suc t) k h = get_more xs y t k h

pub keeps_more : (xs : List TacKind) (y : TacKind) → Keeps xs (xs ++ y ∷ [])
keeps_more xs y = record { kept = λ t k h. get_more xs y t k h }

pub get_last : (xs : List TacKind) (y : TacKind) → slice_get (xs ++ y ∷ []) (length xs) ≡ Some y
get_last [] y = refl
get_last (x ∷ xs) y = get_last xs y

pub extensional : (f g : ℕ → Bool) → ((l : ℕ) → f l ≡ g l) → f ≡ g
extensional f g h = λ i l. h l i

-- ---- a plain instruction is added

-- an instruction fits now and whatever temps and labels are made later
pub record Lasts (p : Typed) (d : FunDef) (e : Emitter) (i : TacInstr) : Type 0 where
  pub plain : is_plain i ≡ true
  pub fits : (kinds : List TacKind) (whole : List TacInstr) → Keeps e.kinds.items kinds →
      instruction_fits p d kinds whole i ≡ true

-- and so it does in each function
pub record LastsAnywhere (e : Emitter) (i : TacInstr) : Type 0 where
  pub plain : is_plain i ≡ true
  pub fits : (p : Typed) (d : FunDef) (kinds : List TacKind) (whole : List TacInstr) → Keeps e.kinds.items kinds →
      instruction_fits p d kinds whole i ≡ true

module _ (a b : Emitter) (i : TacInstr) (h : Pushed a b i) where
  pub pushed_has : (l : ℕ) → has_label b.code.items l ≡ (has_label a.code.items l || (is_label i l || false))
  pushed_has l = ap (λ z. has_label z l) h.code ∙ has_append a.code.items (i ∷ []) l

  pub pushed_rest : (rest : List TacInstr) → b.code.items ++ rest ≡ a.code.items ++ (i ∷ rest)
  pushed_rest rest = ap (λ z. z ++ rest) h.code ∙ append_assoc a.code.items (i ∷ []) rest

  or_none : (x : Bool) → (x || (false || false)) ≡ x
  or_none true = refl
  or_none false = refl

  module _ (plain : is_plain i ≡ true) where
    pub plain_has : (l : ℕ) → has_label b.code.items l ≡ has_label a.code.items l
    plain_has l = pushed_has l ∙ ap (λ z. has_label a.code.items l || (z || false)) (no_label i l plain)
        ∙ or_none (has_label a.code.items l)

    pub plain_opens : open_labels b ≡ open_labels a
    unfolding open_labels
    plain_opens = extensional (open_labels b) (open_labels a)
        (λ l. ap (λ z. nat_lt l z && not (has_label b.code.items l)) h.labels
        ∙ ap (λ z. nat_lt l a.labels && not z) (plain_has l))

    pub plain_well : (p : Typed) (d : FunDef) → Lasts p d a i → IsWell p d a → IsWell p d b
    plain_well p d lasts w = record {
      made = λ l s. subst (λ z. l < z) (sym h.labels) (w.made l (record { is = sym (plain_has l) ∙ s.is }));
      completes = λ kinds whole rest ends follows well.
          let keeps : Keeps a.kinds.items kinds =
          keeps_then a.kinds.items b.kinds.items kinds
          (keeps_same a.kinds.items b.kinds.items h.kinds) ends.keeps in
          let mine : Ends a kinds whole =
          record { keeps = keeps; stand = λ l lt. ends.stand l (subst (λ z. l < z) (sym h.labels) lt) } in
          let after : Follows a (i ∷ rest) = record {
            opens = λ l o. or_right (is_label i l) (has_label rest l)
                (follows.opens l (record { is = ap (λ z. z l) plain_opens ∙ o.is }));
            once = λ l s. ap (λ z. z || has_label rest l) (no_label i l plain)
                ∙ follows.once l (record { is = plain_has l ∙ s.is });
          } in
          subst (λ z. WellListed p d kinds whole z) (sym (pushed_rest rest))
          (w.completes kinds whole (i ∷ rest) mine after
          (well_plain p d kinds whole i rest plain (lasts.fits kinds whole keeps) well));
    }

pub pushed_built : (p : Typed) (d : FunDef) (a b : Emitter) (i : TacInstr) → IsWell p d a → Pushed a b i →
    Lasts p d a i → Built p d a b
pushed_built p d a b i w h lasts = record {
  keeps = keeps_same a.kinds.items b.kinds.items h.kinds;
  stands = λ l s. record { is = plain_has a b i h lasts.plain l ∙ s.is };
  opens = plain_opens a b i h lasts.plain;
  well = plain_well a b i h lasts.plain p d lasts w;
}

pub pushed_grown : (a b : Emitter) (i : TacInstr) → Pushed a b i → LastsAnywhere a i → Grown a b
pushed_grown a b i h lasts = record {
  keeps = keeps_same a.kinds.items b.kinds.items h.kinds;
  stands = λ l s. record { is = plain_has a b i h lasts.plain l ∙ s.is };
  opens = plain_opens a b i h lasts.plain;
  well = λ p d. plain_well a b i h lasts.plain p d (record { plain = lasts.plain; fits = lasts.fits p d });
}

-- ---- in steps

pub built : (p : Typed) (d : FunDef) (a b : Emitter) → IsWell p d a → Grown a b → Built p d a b
built p d a b w g = record { keeps = g.keeps; stands = g.stands; opens = g.opens; well = g.well p d w }

pub built_then : (p : Typed) (d : FunDef) (a b c : Emitter) → Built p d a b → Built p d b c → Built p d a c
built_then p d a b c f g = record {
  keeps = keeps_then a.kinds.items b.kinds.items c.kinds.items f.keeps g.keeps;
  stands = λ l s. g.stands l (f.stands l s);
  opens = g.opens ∙ f.opens;
  well = g.well;
}

pub grown_then : (a b c : Emitter) → Grown a b → Grown b c → Grown a c
grown_then a b c f g = record {
  keeps = keeps_then a.kinds.items b.kinds.items c.kinds.items f.keeps g.keeps;
  stands = λ l s. g.stands l (f.stands l s);
  opens = g.opens ∙ f.opens;
  well = λ p d w. g.well p d (f.well p d w);
}

pub grown_same : (a : Emitter) → Grown a a
grown_same a = record {
  keeps = keeps_same a.kinds.items a.kinds.items refl;
  stands = λ l s. s;
  opens = refl;
  well = λ p d w. w;
}

pub kept : (a b : Emitter) (t : ℕ) (k : TacKind) → HasKind a t k → Grown a b → HasKind b t k
kept a b t k h g = record { there = g.keeps.kept t k h.there }

pub kept_int : (a b : Emitter) (t : ℕ) → HasInt a t → Grown a b → HasInt b t
kept_int a b t h g = record { kind = h.kind; has = kept a b t h.kind h.has g; is = h.is }

pub kept_capability : (a b : Emitter) (t : ℕ) → HasCapability a t → Grown a b → HasCapability b t
kept_capability a b t h g = record { kind = h.kind; has = kept a b t h.kind h.has g; is = h.is }

pub as_int : (a : Emitter) (t : ℕ) (k : TacKind) → HasKind a t k → is_capability k ≡ false → HasInt a t
as_int a t k h e = record { kind = k; has = h; is = e }

pub as_capability : (a : Emitter) (t : ℕ) (k : TacKind) → HasKind a t k → is_capability k ≡ true → HasCapability a t
as_capability a t k h e = record { kind = k; has = h; is = e }

-- ---- a temp is made

module _ (a b : Emitter) (k : TacKind) (h : Made a b k) where
  made_keeps : Keeps a.kinds.items b.kinds.items
  made_keeps = subst (λ z. Keeps a.kinds.items z) (sym h.kinds) (keeps_more a.kinds.items k)

  made_opens : open_labels b ≡ open_labels a
  unfolding open_labels
  made_opens = extensional (open_labels b) (open_labels a)
      (λ l. ap (λ z. nat_lt l z && not (has_label b.code.items l)) h.labels
      ∙ ap (λ z. nat_lt l a.labels && not (has_label z l)) h.code)

  made_stands : (l : ℕ) → Stands b l → Stands a l
  made_stands l s = record { is = ap (λ z. has_label z l) (sym h.code) ∙ s.is }

  pub made_well : (p : Typed) (d : FunDef) → IsWell p d a → IsWell p d b
  made_well p d w = record {
    made = λ l s. subst (λ z. l < z) (sym h.labels) (w.made l (made_stands l s));
    completes = λ kinds whole rest ends follows well.
        let mine : Ends a kinds whole = record {
          keeps = keeps_then a.kinds.items b.kinds.items kinds made_keeps ends.keeps;
          stand = λ l lt. ends.stand l (subst (λ z. l < z) (sym h.labels) lt);
        } in
        let after : Follows a rest = record {
          opens = λ l o. follows.opens l (record { is = ap (λ z. z l) made_opens ∙ o.is });
          once = λ l s. follows.once l (record { is = ap (λ z. has_label z l) h.code ∙ s.is });
        } in
        subst (λ z. WellListed p d kinds whole (z ++ rest)) (sym h.code) (w.completes kinds whole rest mine after well);
  }

pub made_grown : (a b : Emitter) (k : TacKind) → Made a b k → Grown a b
made_grown a b k h = record {
  keeps = made_keeps a b k h;
  stands = λ l s. record { is = ap (λ z. has_label z l) h.code ∙ s.is };
  opens = made_opens a b k h;
  well =
      made_well a b k h;
}

pub made_has : (a b : Emitter) (k : TacKind) → Made a b k → HasKind b (length a.kinds.items) k
made_has a b k h = record {
  there = subst (λ z. slice_get z (length a.kinds.items) ≡ Some k) (sym h.kinds)
      (get_last a.kinds.items k);
}

pub made_adds : (a b : Emitter) (k : TacKind) → Made a b k → Adds a b 1 0
made_adds a b k h = record {
  temps = let e = h.kinds in
      omega (arith, ap length e, length-append a.kinds.items (k ∷ []));
  labels = let e = h.labels in omega arith;
}

pub adds_same : (a : Emitter) → Adds a a 0 0
adds_same a = record { temps = omega arith; labels = omega arith }

pub adds_then : {a b c : Emitter} {m n k l : ℕ} → Adds a b m n → Adds b c k l → Adds a c (m + k) (n + l)
adds_then f g = record {
  temps = omega (arith, f.temps, g.temps);
  labels = omega (arith, f.labels, g.labels);
}

pub adds_within : {a b : Emitter} {m n k : ℕ} → Adds a b m n → m ≤ k → Adds a b k n
adds_within f i = record { temps = omega (arith, f.temps, i); labels = f.labels }

pub as_same : (a : Emitter) (t u : ℕ) (k : TacKind) → HasKind a t k → HasKind a u k → SameKind a t u
as_same a t u k h g = record { kind = k; to = h; from = g }

pub as_temp : (a : Emitter) (t : ℕ) (k : TacKind) → HasKind a t k → IsTemp a t
as_temp a t k h = record { kind = k; has = h }

-- ---- an object is entered

pub entered_has : {a b : Emitter} {to v t : ℕ} {k : TacKind} → Entered a b to v → HasKind a t k → HasKind b t k
entered_has {t = t} h f = record { there = ap (λ z. slice_get z t) (h.points.kinds ∙ h.zero.kinds) ∙ f.there }

pub filled_by : {T E : Type 0} {a b : Emitter} {to v : ℕ} (c : Emitter) (r : Result T E) → Entered a b to v →
    IfOk r (λ _. Grown b c) → IfOk r (λ _. Adds b c 0 0) → IfOk r (λ _. Filled a c to v)
filled_by {b = b} c (Ok x) h g n = record { middle = b; entered = h; stored = g; adds = n }
filled_by c (Err x) h g n = tt
