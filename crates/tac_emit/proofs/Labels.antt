-- Labels, jumps and branches.
use Rattle.std.proofs.Common.{◌≡◌, ℕ, ◌+◌, ◌<◌, ◌≤◌, Bool, true, false, not, List, [], ◌∷◌, ◌++◌, refl, sym, ap, ◌∙◌}
use Rattle.std.proofs.Common.{subst, arith, ⊎_elim, inl, inr, ◌⊎◌}
use Rattle.std.specs.Prelude.{◌==◌, ◌&&◌, ◌||◌, nat_lt}
use Rattle.std.proofs.lemmas.Bool.Decides.{nat_tests}
use Rattle.std.proofs.lemmas.Bool.{cases_lt, or_parts}
use Rattle.c_tree.specs.declared.typed.FunDef.{FunDef}
use Rattle.c_tree.specs.declared.typed.Typed.{Typed}
use Rattle.tac_ir.specs.Meaning.{is_label}
use Rattle.tac_ir.specs.WellFormed.{has_label}
use Rattle.tac_ir.specs.declared.code.TacInstr.{TacInstr}
use Rattle.tac_ir.specs.declared.code.TacInstr.TheVariants as instr
use Rattle.tac_ir.specs.declared.code.TacKind.{TacKind}
use Rattle.tac_emit.specs.declared.emitter.Emitter.{Emitter}
use Rattle.tac_emit.specs.Emitted.{IsTemp, Keeps, open_labels, IsOpen, Stands, WellListed, Follows, Ends, IsWell}
use Rattle.tac_emit.specs.Emitted.{Built, Grown, with_open, Pending, Labelled, Pushed}
use Rattle.tac_emit.proofs.Wells.{and_true, and_both, or_left, or_right, same_number, well_label, well_branch}
use Rattle.tac_emit.proofs.Wells.{well_jump, well_back, keeps_same, keeps_then, extensional, pushed_has, pushed_rest}
use Rattle.tac_emit.proofs.Instructions.{temp_of}

-- ---- open labels

pub open_is : (e : Emitter) (l : ℕ) → IsOpen e l → (l < e.labels) × (has_label e.code.items l ≡ false)
unfolding open_labels
open_is e l o =
    let b = and_both (nat_lt l e.labels) (not (has_label e.code.items l)) o.is in
    (let q = b.0 in grind (arith, nat_tests), by (has_label e.code.items l) b.1)
  where
    by : (b : Bool) → not b ≡ true → b ≡ false
    by true h = absurd cc
    by false h = refl

pub is_open : (e : Emitter) (l : ℕ) → l < e.labels → has_label e.code.items l ≡ false → IsOpen e l
unfolding open_labels
is_open e l lt h = record {
  is = and_true (nat_lt l e.labels) (not (has_label e.code.items l))
      (grind (arith, nat_tests)) (ap not h);
}

-- a label that was not made is not open
pub closed_past : (e : Emitter) (l : ℕ) → e.labels ≤ l → open_labels e l ≡ false
unfolding open_labels
closed_past e l le = let q : nat_lt l e.labels ≡ false = grind (arith, nat_tests) in
    ap (λ b. b && not (has_label e.code.items l)) q

-- ---- a jump or a branch to an open label

module _ (a b : Emitter) (i : TacInstr) (h : Pushed a b i) (none : (l : ℕ) → is_label i l ≡ false) where
  or_none : (x : Bool) → (x || (false || false)) ≡ x
  or_none true = refl
  or_none false = refl

  same_has : (l : ℕ) → has_label b.code.items l ≡ has_label a.code.items l
  same_has l = pushed_has a b i h l ∙ ap (λ z. has_label a.code.items l || (z || false)) (none l)
      ∙ or_none (has_label a.code.items l)

  same_opens : open_labels b ≡ open_labels a
  unfolding open_labels
  same_opens = extensional (open_labels b) (open_labels a)
      (λ l. ap (λ z. nat_lt l z && not (has_label b.code.items l)) h.labels
      ∙ ap (λ z. nat_lt l a.labels && not z) (same_has l))

  -- it is well formed before whatever has the labels that are open
  pub led_grown :
      ((p : Typed) (d : FunDef) (kinds : List TacKind) (whole rest : List TacInstr) → Ends a kinds whole →
      Follows a rest → WellListed p d kinds whole rest → WellListed p d kinds whole (i ∷ rest))
      → Grown a b
  led_grown leads = record {
    keeps = keeps_same a.kinds.items b.kinds.items h.kinds;
    stands = λ l s. record { is = same_has l ∙ s.is };
    opens = same_opens;
    well = λ p d w. record {
      made = λ l s. subst (λ z. l < z) (sym h.labels) (w.made l (record { is = sym (same_has l) ∙ s.is }));
      completes = λ kinds whole rest ends follows well.
          let mine : Ends a kinds whole = record {
            keeps = keeps_then a.kinds.items b.kinds.items kinds
                (keeps_same a.kinds.items b.kinds.items h.kinds) ends.keeps;
            stand = λ l lt. ends.stand l (subst (λ z. l < z) (sym h.labels) lt);
          } in
          let now : Follows a rest = record {
            opens = λ l o. follows.opens l (record { is = ap (λ z. z l) same_opens ∙ o.is });
            once = λ l s. follows.once l (record { is = same_has l ∙ s.is });
          } in
          let after : Follows a (i ∷ rest) = record {
            opens = λ l o. or_right (is_label i l) (has_label rest l) (now.opens l o);
            once = λ l s. ap (λ z. z || has_label rest l) (none l) ∙ now.once l s;
          } in
          subst (λ z. WellListed p d kinds whole z) (sym (pushed_rest a b i h rest))
          (w.completes kinds whole (i ∷ rest) mine after (leads p d kinds whole rest mine now well));
    };
  }

pub jump_grown : (a b : Emitter) (l : ℕ) → Pushed a b (instr.Jump l) → IsOpen a l → Grown a b
jump_grown a b l h o =
    led_grown a b (instr.Jump l) h (λ k. refl)
    (λ p d kinds whole rest ends follows well.
    well_jump p d kinds whole l rest (ends.stand l (open_is a l o).0) (follows.opens l o) well)

pub branch_grown : (a b : Emitter) (on : ℕ) (when : Bool) (l : ℕ) → Pushed a b (instr.Branch on when l) → IsOpen a l →
    IsTemp a on → Grown a b
branch_grown a b on when l h o t =
    led_grown a b (instr.Branch on when l) h (λ k. refl)
    (λ p d kinds whole rest ends follows well.
    well_branch p d kinds whole on when l rest (temp_of a p d kinds whole ends.keeps on t.kind t.has)
    (ends.stand l (open_is a l o).0) (follows.opens l o) well)

-- ---- a turn, and a jump back

two_rest : (xs rest : List TacInstr) (i j : TacInstr) → ((xs ++ i ∷ []) ++ j ∷ []) ++ rest ≡ xs ++ (i ∷ j ∷ rest)
two_rest [] rest i j = refl
two_rest (x ∷ xs) rest i j = ap (λ z. x ∷ z) (two_rest xs rest i j)

two_has : (xs : List TacInstr) (i j : TacInstr) (l : ℕ) → is_label i l ≡ false → is_label j l ≡ false →
    has_label ((xs ++ i ∷ []) ++ j ∷ []) l ≡ has_label xs l
two_has [] i j l e f = ap (λ z. z || (is_label j l || false)) e ∙ ap (λ z. z || false) f
two_has (x ∷ xs) i j l e f = ap (λ z. is_label x l || z) (two_has xs i j l e f)

module _ (a b c : Emitter) (l : ℕ) (f : Pushed a b instr.Turn) (g : Pushed b c (instr.Jump l)) where
  back_code : c.code.items ≡ (a.code.items ++ instr.Turn ∷ []) ++ instr.Jump l ∷ []
  back_code = g.code ∙ ap (λ z. z ++ instr.Jump l ∷ []) f.code

  back_kinds : c.kinds.items ≡ a.kinds.items
  back_kinds = g.kinds ∙ f.kinds

  back_labels : c.labels ≡ a.labels
  back_labels = g.labels ∙ f.labels

  back_has : (k : ℕ) → has_label c.code.items k ≡ has_label a.code.items k
  back_has k = ap (λ z. has_label z k) back_code ∙ two_has a.code.items instr.Turn (instr.Jump l) k refl refl

  back_opens : open_labels c ≡ open_labels a
  unfolding open_labels
  back_opens = extensional (open_labels c) (open_labels a)
      (λ k. ap (λ z. nat_lt k z && not (has_label c.code.items k)) back_labels
      ∙ ap (λ z. nat_lt k a.labels && not z) (back_has k))

  pub back_grown : Stands a l → Grown a c
  back_grown stands = record {
    keeps = keeps_same a.kinds.items c.kinds.items back_kinds;
    stands = λ k s. record { is = back_has k ∙ s.is };
    opens = back_opens;
    well = λ p d w. record {
      made = λ k s. subst (λ z. k < z) (sym back_labels) (w.made k (record { is = sym (back_has k) ∙ s.is }));
      completes = λ kinds whole rest ends follows well.
          let mine : Ends a kinds whole = record {
            keeps = keeps_then a.kinds.items c.kinds.items kinds
                (keeps_same a.kinds.items c.kinds.items back_kinds) ends.keeps;
            stand = λ k lt. ends.stand k (subst (λ z. k < z) (sym back_labels) lt);
          } in
          let now : Follows a rest = record {
            opens = λ k o. follows.opens k (record { is = ap (λ z. z k) back_opens ∙ o.is });
            once = λ k s. follows.once k (record { is = back_has k ∙ s.is });
          } in
          let after : Follows a (instr.Turn ∷ instr.Jump l ∷ rest) =
          record { opens = λ k o. now.opens k o; once = λ k s. now.once k s } in
          subst (λ z. WellListed p d kinds whole z)
          (sym (ap (λ z. z ++ rest) back_code ∙ two_rest a.code.items rest instr.Turn (instr.Jump l)))
          (w.completes kinds whole (instr.Turn ∷ instr.Jump l ∷ rest) mine after
          (well_back p d kinds whole l rest (mine.stand l (w.made l stands)) (now.once l stands) well));
    };
  }

-- ---- labels are made, and stand

pub pending_none : (p : Typed) (d : FunDef) (a : Emitter) → IsWell p d a → Pending p d a a []
pending_none p d a w = record {
  keeps = keeps_same a.kinds.items a.kinds.items refl;
  stands = λ l s. s;
  opens = refl;
  are_new = tt;
  well = w;
}

pub pending_built : (p : Typed) (d : FunDef) (a b : Emitter) → Pending p d a b [] → Built p d a b
pending_built p d a b h = record { keeps = h.keeps; stands = h.stands; opens = h.opens; well = h.well }

pub pending_then : (p : Typed) (d : FunDef) (a b c : Emitter) (ls : List ℕ) → Pending p d a b ls → Built p d b c →
    Pending p d a c ls
pending_then p d a b c ls h g = record {
  keeps = keeps_then a.kinds.items b.kinds.items c.kinds.items h.keeps g.keeps;
  stands = λ l s. g.stands l (h.stands l s);
  opens = g.opens ∙ h.opens;
  are_new = h.are_new;
  well = g.well;
}

true_and_false : (x : Bool) → x ≡ false → x ≡ true → ⊥
true_and_false true e f = absurd cc
true_and_false false e f = absurd cc

no_true : (b : Bool) → (b ≡ true → ⊥) → b ≡ false
no_true true f = absurd (f refl)
no_true false f = refl

-- one more label is open
more_open : (n k : ℕ) (s : Bool) → (k ≡ n → s ≡ false) → (nat_lt k (n + 1) && not s) ≡ (n == k || (nat_lt k n && not s))
more_open n k s new =
    ⊎_elim (λ (lt : k < n). let e : nat_lt k (n + 1) ≡ true = grind (arith, nat_tests) in
    let f : nat_lt k n ≡ true = grind (arith, nat_tests) in let g : (n == k) ≡ false = grind (arith, nat_tests) in
    ap (λ z. z && not s) e ∙ sym (ap (λ z. z || (nat_lt k n && not s)) g ∙ ap (λ z. z && not s) f))
    (λ (le : n ≤ k). ⊎_elim (λ (lt : k < n + 1). let is : k ≡ n = omega arith in
    let e : nat_lt k (n + 1) ≡ true = grind (arith, nat_tests) in
    let g : (n == k) ≡ true = grind (arith, nat_tests) in
    ap (λ z. z && not s) e ∙ ap not (new is) ∙ sym (ap (λ z. z || (nat_lt k n && not s)) g))
    (λ (ge : n + 1 ≤ k). let e : nat_lt k (n + 1) ≡ false = grind (arith, nat_tests) in
    let f : nat_lt k n ≡ false = grind (arith, nat_tests) in
    let g : (n == k) ≡ false = grind (arith, nat_tests) in
    ap (λ z. z && not s) e ∙ sym (ap (λ z. z || (nat_lt k n && not s)) g ∙ ap (λ z. z && not s) f))
    (cases_lt k (n + 1))) (cases_lt k n)

module _ (p : Typed) (d : FunDef) (a b : Emitter) (l : ℕ) (w : IsWell p d a) (h : Labelled a b l) where
  label_new : has_label a.code.items a.labels ≡ false
  label_new = no_true (has_label a.code.items a.labels)
      (λ e. let lt = w.made a.labels (record { is = e }) in absurd (omega arith))

  more_opens : open_labels b ≡ with_open (l ∷ []) (open_labels a)
  unfolding open_labels
  more_opens =
      extensional (open_labels b) (with_open (l ∷ []) (open_labels a)) (λ k.
      ap (λ z. nat_lt k b.labels && not (has_label z k)) h.code
      ∙ ap (λ z. nat_lt k z && not (has_label a.code.items k)) h.labels
      ∙ more_open a.labels k (has_label a.code.items k) (λ e. ap (λ z. has_label a.code.items z) e ∙ label_new)
      ∙ ap (λ z. z == k || (nat_lt k a.labels && not (has_label a.code.items k))) (sym h.label))

  more_keeps : Keeps a.kinds.items b.kinds.items
  more_keeps = keeps_same a.kinds.items b.kinds.items h.kinds

  more_well : IsWell p d b
  more_well = record {
    made = λ k s. let lt = w.made k (record { is = ap (λ z. has_label z k) (sym h.code) ∙ s.is }) in let e = h.labels in
        omega arith;
    completes = λ kinds whole rest ends follows well.
        let mine : Ends a kinds whole = record {
          keeps = keeps_then a.kinds.items b.kinds.items kinds more_keeps ends.keeps;
          stand = λ k lt. ends.stand k (let e = h.labels in omega arith);
        } in
        let now : Follows a rest = record {
          opens = λ k o. follows.opens k (record {
            is = ap (λ z. z k) more_opens
                ∙ or_right (l == k) (open_labels a k) o.is;
          });
          once = λ k s. follows.once k (record { is = ap (λ z. has_label z k) h.code ∙ s.is });
        } in
        subst (λ z. WellListed p d kinds whole (z ++ rest)) (sym h.code) (w.completes kinds whole rest mine now well);
  }

-- a label is made beside others that are open
pub pending_more : (p : Typed) (d : FunDef) (o a b : Emitter) (ls : List ℕ) (l : ℕ) → Pending p d o a ls →
    Labelled a b l → Pending p d o b (l ∷ ls)
pending_more p d o a b ls l h g = record {
  keeps = keeps_then o.kinds.items a.kinds.items b.kinds.items h.keeps (more_keeps p d a b l h.well g);
  stands = λ k s. record { is = ap (λ z. has_label z k) g.code ∙ (h.stands k s).is };
  opens = more_opens p d a b l h.well g ∙ ap (λ z. with_open (l ∷ []) z) h.opens
      ∙ extensional (with_open (l ∷ []) (with_open ls (open_labels o))) (with_open (l ∷ ls) (open_labels o))
      (λ k. refl);
  are_new = (sym (ap (λ z. z l) h.opens) ∙ closed_past a l (let e = g.label in omega arith), h.are_new);
  well = more_well p d a b l h.well g;
}

-- the labels so far are open
pub pending_open : (p : Typed) (d : FunDef) (a b : Emitter) (l : ℕ) (ls : List ℕ) → Pending p d a b (l ∷ ls) →
    IsOpen b l
pending_open p d a b l ls h =
    record { is = ap (λ z. z l) h.opens ∙ or_left (l == l) (with_open ls (open_labels a) l) (same_number l) }

pub pending_open_next : (p : Typed) (d : FunDef) (a b : Emitter) (k l : ℕ) (ls : List ℕ) →
    Pending p d a b (k ∷ l ∷ ls) → IsOpen b l
pending_open_next p d a b k l ls h =
    record {
      is = ap (λ z. z l) h.opens
          ∙ or_right (k == l) (with_open (l ∷ ls) (open_labels a) l)
          (or_left (l == l) (with_open ls (open_labels a) l) (same_number l));
    }

-- those of others stay open
pub pending_others : (p : Typed) (d : FunDef) (a b : Emitter) (l : ℕ) (ls : List ℕ) → Pending p d a b ls → IsOpen a l →
    IsOpen b l
pending_others p d a b l ls h o = record { is = ap (λ z. z l) h.opens ∙ by ls (open_labels a) o.is }
  where
    by : (ls : List ℕ) (f : ℕ → Bool) → f l ≡ true → with_open ls f l ≡ true
    by [] f e = e
    by (k ∷ ks) f e = or_right (k == l) (with_open ks f l) (by ks f e)

or_swap : (a b c : Bool) → (a || (b || c)) ≡ (b || (a || c))
or_swap true true c = refl
or_swap true false c = refl
or_swap false b c = refl

pub pending_swap : (p : Typed) (d : FunDef) (a b : Emitter) (k l : ℕ) (ls : List ℕ) → Pending p d a b (k ∷ l ∷ ls) →
    Pending p d a b (l ∷ k ∷ ls)
pending_swap p d a b k l ls h = record {
  keeps = h.keeps;
  stands = h.stands;
  opens = h.opens ∙ extensional (with_open (k ∷ l ∷ ls) (open_labels a)) (with_open (l ∷ k ∷ ls) (open_labels a))
      (λ z. or_swap (k == z) (l == z) (with_open ls (open_labels a) z));
  are_new =
      let f = or_parts (l == k) (with_open ls (open_labels a) k) h.are_new.0 in
      let e : (k == l) ≡ false = let q = f.0 in grind (arith, nat_tests) in
      (ap (λ z. z || with_open ls (open_labels a) l) e ∙ h.are_new.1.0, (f.1, h.are_new.1.1));
  well = h.well;
}

-- ---- a label stands

less_open : (l k : ℕ) (f : Bool) (lt s : Bool) → (lt && not s) ≡ (l == k || f) → (k ≡ l → f ≡ false) →
    (lt && not (s || (l == k || false))) ≡ f
less_open l k f lt s e new =
    ⊎_elim (λ (is : l ≡ k). let q : (l == k) ≡ true = grind (arith, nat_tests) in
    ap (λ z. lt && not (s || (z || false))) q ∙ (and_not lt s) ∙ sym (new (sym is)))
    (λ (ne : l ≡ k → ⊥). let q : (l == k) ≡ false = grind (arith, nat_tests) in
    ap (λ z. lt && not (s || (z || false))) q ∙ and_same lt s ∙ e ∙ ap (λ z. z || f) q) (same_or_not l k)
  where
    and_not : (lt s : Bool) → (lt && not (s || true)) ≡ false
    and_not true true = refl
    and_not true false = refl
    and_not false s = refl

    and_same : (lt s : Bool) → (lt && not (s || false)) ≡ (lt && not s)
    and_same true true = refl
    and_same true false = refl
    and_same false s = refl

    same_or_not : (l k : ℕ) → (l ≡ k) ⊎ (l ≡ k → ⊥)
    same_or_not l k = ⊎_elim (λ (lt : l < k). inr (λ e. omega arith))
        (λ (le : k ≤ l). ⊎_elim (λ (lt : k < l). inr (λ e. omega arith)) (λ (ge : l ≤ k). inl (omega arith))
        (cases_lt k l)) (cases_lt l k)

stand_opens : (p : Typed) (d : FunDef) (o a b : Emitter) (l : ℕ) (ls : List ℕ) → Pending p d o a (l ∷ ls) →
    Pushed a b (instr.Label l) → open_labels b ≡ with_open ls (open_labels o)
unfolding open_labels
stand_opens p d o a b l ls h g =
    extensional (open_labels b) (with_open ls (open_labels o)) (λ k.
    ap (λ z. nat_lt k z && not (has_label b.code.items k)) g.labels
    ∙ ap (λ z. nat_lt k a.labels && not z) (pushed_has a b (instr.Label l) g k)
    ∙ less_open l k (with_open ls (open_labels o) k) (nat_lt k a.labels) (has_label a.code.items k)
    (ap (λ z. z k) h.opens) (λ e. ap (λ z. with_open ls (open_labels o) z) e ∙ h.are_new.0))

pub pending_stands : (p : Typed) (d : FunDef) (o a b : Emitter) (l : ℕ) (ls : List ℕ) → Pending p d o a (l ∷ ls) →
    Pushed a b (instr.Label l) → Pending p d o b ls
pending_stands p d o a b l ls h g = record {
  keeps = keeps_then o.kinds.items a.kinds.items b.kinds.items h.keeps keeps;
  stands = λ k s. record {
    is = pushed_has a b (instr.Label l) g k
        ∙ or_left (has_label a.code.items k) (l == k || false) (h.stands k s).is;
  };
  opens = opens;
  are_new = h.are_new.1;
  well = record {
    made = λ k s. subst (λ z. k < z) (sym g.labels)
        (made k (or_cases (has_label a.code.items k) (l == k) (sym (pushed_has a b (instr.Label l) g k) ∙ s.is)));
    completes = λ kinds whole rest ends follows well.
        let mine : Ends a kinds whole = record {
          keeps = keeps_then a.kinds.items b.kinds.items kinds keeps ends.keeps;
          stand = λ k lt. ends.stand k (subst (λ z. k < z) (sym g.labels) lt);
        } in
        let not_there : has_label rest l ≡ false =
        follows.once l (record {
          is = pushed_has a b (instr.Label l) g l
              ∙ or_right (has_label a.code.items l) (l == l || false) (or_left (l == l) false (same_number l));
        })
        in
        let after : Follows a (instr.Label l ∷ rest) = record {
          opens = λ k q. opened k rest (λ e. follows.opens k (record { is = ap (λ z. z k) opens ∙ e }))
              (or_cases_plain (l == k) (with_open ls (open_labels o) k) (sym (ap (λ z. z k) h.opens) ∙ q.is));
          once = λ k s. or_both_false (l == k) (has_label rest k) (apart k s)
              (follows.once k (record {
                is = pushed_has a b (instr.Label l) g k
                    ∙ or_left (has_label a.code.items k) (l == k || false) s.is;
              }));
        } in
        subst (λ z. WellListed p d kinds whole z) (sym (pushed_rest a b (instr.Label l) g rest))
        (h.well.completes kinds whole (instr.Label l ∷ rest) mine after
        (well_label p d kinds whole l rest not_there well));
  };
}
  where
    keeps : Keeps a.kinds.items b.kinds.items
    keeps = keeps_same a.kinds.items b.kinds.items g.kinds

    opens : open_labels b ≡ with_open ls (open_labels o)
    opens = stand_opens p d o a b l ls h g

    or_cases : (x y : Bool) → (x || (y || false)) ≡ true → (x ≡ true) ⊎ (y ≡ true)
    or_cases true y e = inl refl
    or_cases false true e = inr refl
    or_cases false false e = absurd cc

    or_cases_plain : (x y : Bool) → (x || y) ≡ true → (x ≡ true) ⊎ (y ≡ true)
    or_cases_plain true y e = inl refl
    or_cases_plain false y e = inr e

    or_both_false : (x y : Bool) → x ≡ false → y ≡ false → (x || y) ≡ false
    or_both_false true y e f = absurd cc
    or_both_false false y e f = f

    opened : (k : ℕ) (rest : List TacInstr) → (with_open ls (open_labels o) k ≡ true → has_label rest k ≡ true) →
        ((l == k) ≡ true) ⊎ (with_open ls (open_labels o) k ≡ true) → (l == k || has_label rest k) ≡ true
    opened k rest f c = ⊎_elim (λ e. or_left (l == k) (has_label rest k) e)
        (λ e. or_right (l == k) (has_label rest k) (f e)) c

    mine_open : IsOpen a l
    mine_open = pending_open p d o a l ls h

    made : (k : ℕ) → (has_label a.code.items k ≡ true) ⊎ ((l == k) ≡ true) → k < a.labels
    made k c = ⊎_elim (λ e. h.well.made k (record { is = e }))
        (λ e. let q : l ≡ k = grind (arith, nat_tests) in subst (λ z. z < a.labels) q (open_is a l mine_open).0) c

    apart : (k : ℕ) → Stands a k → (l == k) ≡ false
    apart k s = no_true (l == k) (λ e. let q : l ≡ k = grind (arith, nat_tests) in
        true_and_false (has_label a.code.items l) (open_is a l mine_open).1
        (ap (λ z. has_label a.code.items z) q ∙ s.is))
