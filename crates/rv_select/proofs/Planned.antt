-- The words of operations on integers, by how they are computed.
use mir.Val.{SFits}
use Rattle.std.proofs.Common.{◌≡◌, ℕ, zero, suc, ◌+◌, ◌*◌, ◌%◌, ◌^◌, ◌<◌, ◌≤◌, ℤ, pos, negsuc, ◌-ℤ◌, ◌⊎◌, Bool, true}
use Rattle.std.proofs.Common.{inl, inr, List, [], ◌∷◌, ◌++◌, refl, ap, sym, subst, ◌∙◌, append_assoc, arith, w32, of_z}
use Rattle.std.specs.Prelude.{Option, Some, None, IfSome}
use Rattle.std.proofs.lemmas.Int.{ints}
use Rattle.std.proofs.lemmas.Nat.{pow_below, pow-add}
use Rattle.ck_int.specs.Kinds.{form_of, width_of, kept_of}
use Rattle.ck_int.specs.declared.kinds.IntKind.{IntKind}
use Rattle.ck_int.specs.declared.kinds.IntKind.TheVariants as int
use Rattle.ck_int.specs.declared.kinds.IntOp.{IntOp}
use Rattle.ck_int.specs.declared.kinds.IntOp.TheVariants as op
use Rattle.cap_machine.specs.Integers.{extended}
use Rattle.rv_instr.specs.Range.{FitsBits, count_bits}
use Rattle.rv_instr.specs.declared.instr.Instr.{Instr}
use Rattle.rv_instr.specs.declared.instr.Instr.TheVariants as word
use Rattle.rv_instr.specs.declared.ops.ShiftOp.{ShiftOp}
use Rattle.rv_instr.specs.declared.ops.ShiftOp.TheVariants.{Slli}
use Rattle.rv_instr.specs.declared.ops.ImmOp.{ImmOp}
use Rattle.tac_ir.specs.Costs.{is_wide}
use Rattle.select_words.specs.Selecting.{Selecting}
use Rattle.select_words.specs.Emitted.{IsNumber, Operand, Target, Keep}
use Rattle.select_words.specs.Forms.{OfOne, OfTwo, Other}
use Rattle.select_words.specs.Operations as words
use Rattle.select_words.specs.Operations.{finish_code, shift_by, immediate_by, OneThen, IntegerWords, AtKind}
use Rattle.rv_select.specs.declared.function.Function.{Function}
use Rattle.rv_select.specs.declared.operations.Work.{Work}
use Rattle.rv_select.specs.declared.operations.Work.TheVariants.{Registers, Immediate, Shift}
use Rattle.rv_select.specs.Choosing.{Chooses}
use Rattle.rv_emit.specs.Growing.{Size, Puts}
use Rattle.rv_select.specs.Planning.{by_number, IsShift, IsWithNumber, Second, First, IsPlan, ChoosesWork}
use Rattle.rv_select.specs.Planning as plan
use Rattle.rv_select.specs.Planning.{OneWord, TwoWord, WorkWord, WorkWords}
use Rattle.rv_emit.proofs.Appended.{puts_then}

pub if_some : {T : Type 0} (o : Option T) (P Q : T → Type 0) → IfSome o P → ((x : T) → P x → Q x) → IfSome o Q
if_some None P Q p f = p
if_some (Some x) P Q p f = f x p

-- ---- numbers

-- the low bits of a number
pub low_six : (z : ℤ) → SFits w32 z → of_z w32 z % 64 ≡ extended z % 64
unfolding kept_of
low_six (pos n) h = let f = h.sfits in omega (arith, ints, f)
low_six (negsuc n) h = let f = h.sfits in omega (arith, ints, f)

pub low_five : (z : ℤ) → SFits w32 z → of_z w32 z % 32 ≡ extended z % 32
unfolding kept_of
low_five (pos n) h = let f = h.sfits in omega (arith, ints, f)
low_five (negsuc n) h = let f = h.sfits in omega (arith, ints, f)

pub wide_width : (k : IntKind) → (k ≡ int.I64) ⊎ (k ≡ int.U64) → width_of (form_of k) ≡ 64
wide_width k (inl e) = ap (λ j. width_of (form_of j)) e
wide_width k (inr e) = ap (λ j. width_of (form_of j)) e

pub word_width : (k : IntKind) → (k ≡ int.I64 → ⊥) → (k ≡ int.U64 → ⊥) → 32 ≤ width_of (form_of k)
    → width_of (form_of k) ≡ 32
word_width int.Bool n m h = absurd (omega arith)
word_width int.I8 n m h = absurd (omega arith)
word_width int.U8 n m h = absurd (omega arith)
word_width int.I16 n m h = absurd (omega arith)
word_width int.U16 n m h = absurd (omega arith)
word_width int.I32 n m h = refl
word_width int.U32 n m h = refl
word_width int.I64 n m h = absurd (n refl)
word_width int.U64 n m h = absurd (m refl)

-- the bits that a shift has keep its count
pub counted : (k : IntKind) (o : IntOp) (n : ℕ) → 32 ≤ width_of (form_of k) → IsShift o
    → (n % width_of (form_of k)) % 2 ^ count_bits (shift_by k o) ≡ n % width_of (form_of k)
counted int.I32 op.Shl n h i = omega arith
counted int.I32 op.Shr n h i = omega arith
counted int.U32 op.Shl n h i = omega arith
counted int.U32 op.Shr n h i = omega arith
counted int.I64 op.Shl n h i = omega arith
counted int.I64 op.Shr n h i = omega arith
counted int.U64 op.Shl n h i = omega arith
counted int.U64 op.Shr n h i = omega arith
counted int.Bool o n h i = absurd (omega arith)
counted int.I8 o n h i = absurd (omega arith)
counted int.U8 o n h i = absurd (omega arith)
counted int.I16 o n h i = absurd (omega arith)
counted int.U16 o n h i = absurd (omega arith)
counted k o n h i = absurd i

-- the negative of a number of 12 bits
below_nothing : (n : ℕ) → pos 0 -ℤ pos (suc n) ≡ negsuc n
below_nothing n = omega (arith, ints)

pub negative_fits : (v : ℤ) → FitsBits 12 v → SFits w32 (pos 0 -ℤ v)
negative_fits (pos zero) h = record { sfits = omega arith }
negative_fits (pos (suc n)) h =
    let f = h.1 in
    let fits : SFits w32 (negsuc n) = record { sfits = omega (arith, ints, f) } in
    subst (SFits w32) (sym (below_nothing n)) fits
negative_fits (negsuc n) h = let f = h.0 in record { sfits = omega (arith, ints, f) }

pub to_nothing : (v : ℤ) → FitsBits 12 v → (extended (pos 0 -ℤ v) + extended v) % 2 ^ 64 ≡ 0
unfolding kept_of
to_nothing (pos zero) h = refl
to_nothing (pos (suc n)) h =
    let f = h.1 in
    ap (λ z. (extended z + extended (pos (suc n))) % 2 ^ 64) (below_nothing n) ∙ omega (arith, ints, f)
to_nothing (negsuc n) h = let f = h.0 in omega (arith, ints, f)

-- the next power of two
pub doubled : (x k : ℕ) → x ≡ 2 ^ k → k < 31 → (x * 2) % 2 ^ 32 ≡ 2 ^ (k + 1)
doubled x k e lt =
    let small : 2 ^ k < 2 ^ 31 = pow_below k 31 lt in
    let next = pow-add 2 k 1 in
    omega (arith, e, small, next)

pub power_number : (s : Selecting) (t p : ℕ) (z : ℤ) → p < 31 → z ≡ pos (2 ^ p) → IsNumber s t (extended z)
    → IsNumber s t (2 ^ p)
unfolding kept_of
power_number s t p z lt e n =
    let small : 2 ^ p < 2 ^ 31 = pow_below p 31 lt in
    let same : (2 ^ p) % 2 ^ 64 ≡ 2 ^ p = omega (arith, small) in
    n ∙ ap (λ x. Some (extended x)) e ∙ ap Some same

-- ---- words

module _ (s : Selecting) (a : ℕ) (old found : Size) where
  pub one_word : (x left : ℕ) (new : Size) (word : ℕ → Instr) (i : Instr) → left ≡ 28
      → Puts (λ ws. Operand s a left ws x) old found → new.text ≡ found.text ++ i ∷ [] → i ≡ word x
      → Puts (OneWord s a word) old new
  one_word x left new word i e p t is = record {
    added = p.added ++ word x ∷ [];
    is = t ∙ ap (λ y. y ++ i ∷ []) p.is ∙ append_assoc old.text p.added (i ∷ [])
        ∙ ap (λ j. old.text ++ (p.added ++ j ∷ [])) is;
    are = record { x = x; finds = p.added; found = subst (λ y. Operand s a y p.added x) e p.are; are = refl };
  }

  pub two_word : (b x y left right : ℕ) (second new : Size) (word : ℕ → ℕ → Instr) (i : Instr) → left ≡ 28
      → right ≡ 29 → Puts (λ ws. Operand s a left ws x) old found → Puts (λ ws. Operand s b right ws y) found second
      → new.text ≡ second.text ++ i ∷ [] → i ≡ word x y → Puts (TwoWord s a b word) old new
  two_word b x y left right second new word i e d p q t is = record {
    added = p.added ++ (q.added ++ word x y ∷ []);
    is = t ∙ ap (λ j. second.text ++ j ∷ []) is ∙ ap (λ u. u ++ word x y ∷ []) (q.is ∙ ap (λ u. u ++ q.added) p.is)
        ∙ append_assoc (old.text ++ p.added) q.added (word x y ∷ [])
        ∙ append_assoc old.text p.added (q.added ++ word x y ∷ []);
    are = record {
      x = x;
      y = y;
      finds = p.added;
      others = q.added;
      found = subst (λ z. Operand s a z p.added x) e p.are;
      other = subst (λ z. Operand s b z q.added y) d q.are;
      are = refl;
    };
  }

-- what stands behind the word: the end, and the words that keep the result
module _ (s : Selecting) (to r : ℕ) (ends : ℕ → List Instr) (t : Target s to r) where
  one_ended : (a : ℕ) (word : (r x : ℕ) → Instr) (ws ks : List Instr) → OneWord s a (word r) ws → Keep s to r ks
      → OfOne s to a (OneThen word ends) (ws ++ (ends r ++ ks))
  one_ended a word ws ks w k = record {
    a = w.x;
    finds = w.finds;
    found = w.found;
    then_on = (word r w.x ∷ ends r) ++ ks;
    makes = record { r = r; target = t; work = word r w.x ∷ ends r; works = refl; keep = ks; kept = k; are = refl };
    are = ap (λ y. y ++ (ends r ++ ks)) w.are ∙ append_assoc w.finds (word r w.x ∷ []) (ends r ++ ks);
  }

  two_ended : (a b : ℕ) (word : (r x y : ℕ) → Instr) (ws ks : List Instr) → TwoWord s a b (word r) ws → Keep s to r ks
      → OfTwo s to a (Other s b) (words.TwoThen word ends) (ws ++ (ends r ++ ks))
  two_ended a b word ws ks w k = record {
    a = w.x;
    b = w.y;
    finds = w.finds;
    found = w.found;
    others = w.others;
    second = w.other;
    then_on = (word r w.x w.y ∷ ends r) ++ ks;
    makes = record { r = r; target = t; work = word r w.x w.y ∷ ends r; works = refl; keep = ks; kept = k; are = refl };
    are = ap (λ y. y ++ (ends r ++ ks)) w.are
        ∙ append_assoc w.finds (w.others ++ word r w.x w.y ∷ []) (ends r ++ ks)
        ∙ ap (λ y. w.finds ++ y) (append_assoc w.others (word r w.x w.y ∷ []) (ends r ++ ks));
  }

  ended : (w : Work) (ws ks : List Instr) → WorkWord s w r ws → Keep s to r ks
      → WorkWords s ends to w (ws ++ (ends r ++ ks))
  ended (Registers i a b) ws ks p k = two_ended a b (word.Op i) ws ks p k
  ended (Immediate i a z) ws ks p k = one_ended a (λ q x. word.Imm i q x z) ws ks p k
  ended (Shift i a n) ws ks p k = one_ended a (λ q x. word.Shift i q x (n % 2 ^ count_bits i)) ws ks p k

  pub worked : (w : Work) (old mid done new : Size) → Puts (WorkWord s w r) old mid → done.text ≡ mid.text ++ ends r
      → Puts (Keep s to r) done new → Puts (WorkWords s ends to w) old new
  worked w old mid done new p e k =
      puts_then (WorkWord s w r) (λ vs. (ks : List Instr) × Keep s to r ks × (vs ≡ ends r ++ ks))
      (WorkWords s ends to w) old mid new p
      (record {
        added = ends r ++ k.added;
        is = k.is ∙ ap (λ x. x ++ k.added) e ∙ append_assoc mid.text (ends r) k.added;
        are = (k.added, k.are, refl);
      })
      (λ ws vs v h. subst (λ x. WorkWords s ends to w (ws ++ x)) (sym h.2) (ended w ws h.0 v h.1))

-- ---- the ways

of_one_map : (s : Selecting) (to a : ℕ) (V W : (r x : ℕ) → List Instr → Type 0)
    → ((r x : ℕ) (ws : List Instr) → V r x ws → W r x ws) → (ws : List Instr) → OfOne s to a V ws → OfOne s to a W ws
of_one_map s to a V W f ws o = record {
  a = o.a;
  finds = o.finds;
  found = o.found;
  then_on = o.then_on;
  makes = record {
    r = o.makes.r;
    target = o.makes.target;
    work = o.makes.work;
    works = f o.makes.r o.a o.makes.work o.makes.works;
    keep = o.makes.keep;
    kept = o.makes.kept;
    are = o.makes.are;
  };
  are = o.are;
}

wide_ends : (k : IntKind) (o : IntOp) (b : Bool) (r : ℕ) → is_wide k ≡ true → finish_code k o b r ≡ []
wide_ends int.I64 o b r e = refl
wide_ends int.U64 o b r e = refl
wide_ends k o b r e = absurd cc

-- a product that is a shift
multiplied : (s : Selecting) (k : IntKind) (o : IntOp) (to a q : ℕ) (ws : List Instr) → q < 31 → is_wide k ≡ true
    → OfOne s to a (OneThen (λ r x. word.Shift Slli r x (q % 2 ^ 6)) (finish_code k o true)) ws
    → OfOne s to a (OneThen (λ r x. word.Shift Slli r x q) (λ r. [])) ws
multiplied s k o to a q ws lt e p =
    let low : q % 2 ^ 6 ≡ q = omega (arith, lt) in
    of_one_map s to a (OneThen (λ r x. word.Shift Slli r x (q % 2 ^ 6)) (finish_code k o true))
    (OneThen (λ r x. word.Shift Slli r x q) (λ r. []))
    (λ r x vs v. v ∙ ap (λ m. word.Shift Slli r x m ∷ finish_code k o true r) low
    ∙ ap (λ y. word.Shift Slli r x q ∷ y) (wide_ends k o true r e)) ws p

module _ (s : Selecting) (k : IntKind) (to a b : ℕ) (ws : List Instr) where
  same_count : (i : ShiftOp) (ends : ℕ → List Instr) (m n : ℕ) → m ≡ n
      → OfOne s to a (OneThen (λ r x. word.Shift i r x m) ends) ws
      → OfOne s to a (OneThen (λ r x. word.Shift i r x n) ends) ws
  same_count i ends m n e p = subst (λ c. OfOne s to a (OneThen (λ r x. word.Shift i r x c) ends) ws) e p

  shifted : (o : IntOp) (n m : ℕ) → IsShift o → IsNumber s b n
      → m % 2 ^ count_bits (shift_by k o) ≡ n % width_of (form_of k)
      → OfOne s to a (OneThen (λ r x. word.Shift (shift_by k o) r x (m % 2 ^ count_bits (shift_by k o)))
      (finish_code k o true)) ws
      → IntegerWords s o k to a b ws
  shifted op.Shl n m i is e p =
      words.Shifted n refl is (same_count (shift_by k op.Shl) (finish_code k op.Shl true) _ _ e p)
  shifted op.Shr n m i is e p =
      words.Shifted n refl is (same_count (shift_by k op.Shr) (finish_code k op.Shr true) _ _ e p)
  shifted o n m i is e p = absurd i

  module _ (o : IntOp) (w : Work) (p : WorkWords s (finish_code k o (by_number w)) to w ws) where
    at : (v : Work) → w ≡ v → WorkWords s (finish_code k o (by_number v)) to v ws
    at v e = subst (λ x. WorkWords s (finish_code k o (by_number x)) to x ws) e p

    pub planned : IsPlan s o k a b w → IntegerWords s o k to a b ws
    planned (plan.Both e) = words.Registers (at _ e)
    planned (plan.WithNumber i f (Second z n e)) = words.WithNumber i (extended z) z f n refl (at _ e)
    planned (plan.WithNumber i f (First z n e)) = words.NumberWith i (extended z) z f n refl (at _ e)
    planned (plan.LessNumber n z f is h e) = words.LessNumber n z f is h (at _ e)
    planned (plan.Shifted n m i is h e) = shifted o n m i is h (at _ e)
    planned (plan.Times f wide t) = words.Times t.power f wide t.below t.number
        (multiplied s k o to a t.power ws t.below wide (at _ t.is))
    planned (plan.TimesFirst f wide t) = words.TimesFirst t.power f wide t.below t.number
        (multiplied s k o to b t.power ws t.below wide (at _ t.is))

-- a number on either side, of an operation whose word has one
pub plan_with : (s : Selecting) (o q : IntOp) (k : IntKind) (i : ImmOp) (a b : ℕ) (w : Work) → o ≡ q
    → immediate_by k q ≡ Some i → IsWithNumber s i a b w → IsPlan s o k a b w
plan_with s o q k i a b w e f p = plan.WithNumber i (ap (immediate_by k) e ∙ f) p

pub shift_width : (k : IntKind) (o : IntOp) → (o ≡ op.Shl) ⊎ (o ≡ op.Shr) → AtKind k o → 32 ≤ width_of (form_of k)
shift_width k o (inl e) h = subst (AtKind k) e h
shift_width k o (inr e) h = subst (AtKind k) e h

-- words are chosen for the operands that the work has
module _ (f : Function) (s : Selecting) (o : IntOp) (k : IntKind) (a b : ℕ) (w : Work) (h : Chooses f a)
    (g : Chooses f b) where
  chosen_as : (v : Work) → w ≡ v → ChoosesWork f v → ChoosesWork f w
  chosen_as v e c = subst (ChoosesWork f) (sym e) c

  pub chosen_work : IsPlan s o k a b w → ChoosesWork f w
  chosen_work (plan.Both e) = chosen_as _ e (h, g)
  chosen_work (plan.WithNumber i d (Second z n e)) = chosen_as _ e h
  chosen_work (plan.WithNumber i d (First z n e)) = chosen_as _ e g
  chosen_work (plan.LessNumber n z d is c e) = chosen_as _ e h
  chosen_work (plan.Shifted n m i is c e) = chosen_as _ e h
  chosen_work (plan.Times d wide t) = chosen_as _ t.is h
  chosen_work (plan.TimesFirst d wide t) = chosen_as _ t.is g
