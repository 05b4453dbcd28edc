-- Code that obeys the rules of contained code: what stands alone, one piece behind the other, and jumps that are led.
use Rattle.std.proofs.Common.{◌≡◌, ℕ, zero, suc, ◌+◌, ◌*◌, ◌<◌, ◌≤◌, ◌⊎◌, inl, inr, ⊎_elim, ℤ, pos, true, false, List}
use Rattle.std.proofs.Common.{[], ◌∷◌, ◌++◌, length, Some, None, refl, sym, ap, ◌∙◌, subst, arith}
use Rattle.std.specs.Prelude.{◌+ℤ◌, ◌-◌, slice_get}
use Rattle.std.specs.List.{All}
use Rattle.std.proofs.lemmas.Bool.{false≢true, cases_lt}
use Rattle.std.proofs.lemmas.Int.{ints}
use Rattle.std.proofs.lemmas.Option.{same_Some, slice_get_within, get_or_from_slice_get}
use Rattle.std.proofs.Math.ListN.{set}
use Rattle.ck_int.specs.Kinds.{kept_of}
use Rattle.rv_instr.specs.declared.instr.Instr.{Instr}
use Rattle.rv_instr.specs.declared.instr.Instr.TheVariants.{Upper, Cjal, Branch, Imm, Ecall, Ebreak, CapGet}
use Rattle.rv_instr.specs.declared.ops.UpperOp.TheVariants.{Auipcc}
use Rattle.rv_instr.specs.declared.ops.ImmOp.TheVariants.{Addi}
use Rattle.rv_instr.specs.declared.ops.CapGetOp.TheVariants.{Csealentry}
use Rattle.cap_machine.specs.ContainedText.{is_allowed, sets_service}
use Rattle.purecap_abi.specs.Words.{stands_anywhere, IsPlainWord}
use Rattle.select_words.specs.ContainedCode.{offset_of, IsTarget, Leads, FollowsService, AreContained}
use Rattle.rv_words.specs.Leading.{IsLed}

-- ---- lists

pub all_get : {A : Type 0} (P : A → Type 0) (xs : List A) (k : ℕ) (x : A) → All P xs → slice_get xs k ≡ Some x → P x
all_get P xs k x h e = subst P (get_or_from_slice_get xs k x x e) (h k x (slice_get_within xs k x e))

pub get_left : {A : Type 0} (xs ys : List A) (k : ℕ) → k < length xs → slice_get (xs ++ ys) k ≡ slice_get xs k
get_left [] ys k h = absurd (omega arith)
get_left (x ∷ xs) ys zero h = refl
get_left (x ∷ xs) ys (suc k) h = get_left xs ys k (omega arith)

pub get_right : {A : Type 0} (xs ys : List A) (k : ℕ) → slice_get (xs ++ ys) (length xs + k) ≡ slice_get ys k
get_right [] ys k = let e : 0 + k ≡ k = omega arith in ap (slice_get ys) e
get_right (x ∷ xs) ys k = let e : suc (length xs) + k ≡ suc (length xs + k) = omega arith in
    ap (slice_get (x ∷ (xs ++ ys))) e ∙ get_right xs ys k

-- what stands in two lists stands in the first, or in the second
abbrev InEither : {A : Type 0} → List A → List A → ℕ → A → Type 0
InEither xs ys k x =
    ((k < length xs) × (slice_get xs k ≡ Some x)) ⊎ ((j : ℕ) × (k ≡ length xs + j) × (slice_get ys j ≡ Some x))

in_either : {A : Type 0} (xs ys : List A) (k : ℕ) (x : A) → slice_get (xs ++ ys) k ≡ Some x → InEither xs ys k x
in_either xs ys k x e = ⊎_elim
    (λ (h : k < length xs). inl (h, sym (get_left xs ys k h) ∙ e))
    (λ (h : length xs ≤ k).
    let n : length xs + (k - length xs) ≡ k = omega arith in
    inr (k - length xs, sym n, sym (get_right xs ys (k - length xs)) ∙ ap (slice_get (xs ++ ys)) n ∙ e))
    (cases_lt k (length xs))

pub set_same : {A : Type 0} (xs : List A) (k : ℕ) (x : A) → k < length xs → slice_get (set xs k x) k ≡ Some x
set_same [] k x h = absurd (omega arith)
set_same (y ∷ ys) zero x h = refl
set_same (y ∷ ys) (suc k) x h = set_same ys k x (omega arith)

pub set_other : {A : Type 0} (xs : List A) (k j : ℕ) (x : A) → (j ≡ k → ⊥) → slice_get (set xs k x) j ≡ slice_get xs j
set_other [] k j x h = refl
set_other (y ∷ ys) zero zero x h = absurd (h refl)
set_other (y ∷ ys) zero (suc j) x h = refl
set_other (y ∷ ys) (suc k) zero x h = refl
set_other (y ∷ ys) (suc k) (suc j) x h = set_other ys k j x (λ e. h (ap suc e))

-- it was set, or stood there before
abbrev InSet : {A : Type 0} → List A → ℕ → A → ℕ → A → Type 0
InSet xs k x j y = ((j ≡ k) × (x ≡ y)) ⊎ ((j ≡ k → ⊥) × (slice_get xs j ≡ Some y))

in_set : {A : Type 0} (xs : List A) (k : ℕ) (x : A) (j : ℕ) (y : A) → k < length xs
    → slice_get (set xs k x) j ≡ Some y → InSet xs k x j y
in_set xs k x j y h e = ⊎_elim
    (λ (l : j < k). let n : j ≡ k → ⊥ = λ q. omega arith in inr (n, sym (set_other xs k j x n) ∙ e))
    (λ (l : k ≤ j). ⊎_elim
    (λ (m : k < j). let n : j ≡ k → ⊥ = λ q. omega arith in inr (n, sym (set_other xs k j x n) ∙ e))
    (λ (m : j ≤ k). let q : j ≡ k = omega arith in
    inl (q, same_Some x y (sym (set_same xs k x h) ∙ ap (slice_get (set xs k x)) (sym q) ∙ e)))
    (cases_lt k j))
    (cases_lt j k)

-- ---- one instruction

plain_allowed : (i : Instr) → stands_anywhere i ≡ true → is_allowed i ≡ true
plain_allowed (Upper Auipcc to n) h = absurd (false≢true h)
plain_allowed Ebreak h = absurd (false≢true h)
plain_allowed (CapGet Csealentry to a) h = absurd (false≢true h)
plain_allowed i h = refl

plain_still : (i : Instr) → stands_anywhere i ≡ true → offset_of i ≡ None
plain_still (Cjal link z) h = absurd (false≢true h)
plain_still (Branch op a b z) h = absurd (false≢true h)
plain_still i h = refl

jump_allowed : (i : Instr) (z : ℤ) → offset_of i ≡ Some z → is_allowed i ≡ true
jump_allowed (Cjal link y) z e = refl
jump_allowed (Branch op a b y) z e = refl
jump_allowed i z e = absurd cc

jump_sets : (i : Instr) (z : ℤ) → offset_of i ≡ Some z → sets_service i ≡ false
jump_sets (Cjal link y) z e = refl
jump_sets (Branch op a b y) z e = refl
jump_sets i z e = absurd cc

jump_no_call : (z : ℤ) → offset_of Ecall ≡ Some z → ⊥
jump_no_call z e = absurd cc

pub sets_one : (n : ℕ) → 1 ≤ n → n ≤ 3 → sets_service (Imm Addi 17 0 (pos n)) ≡ true
unfolding kept_of
sets_one zero h j = absurd (omega arith)
sets_one (suc zero) h j = refl
sets_one (suc (suc zero)) h j = refl
sets_one (suc (suc (suc zero))) h j = refl
sets_one (suc (suc (suc (suc n)))) h j = absurd (omega arith)

-- ---- what stands alone

pub contained_plain : (end : ℕ) (xs : List Instr) → All IsPlainWord xs → AreContained end xs
contained_plain end xs h = record {
  allowed = λ k i e. plain_allowed i (all_get IsPlainWord xs k i h e).anywhere;
  leads = λ k i z e o. let n = plain_still i (all_get IsPlainWord xs k i h e).anywhere in absurd (cc (n, o));
  numbered = λ k e. absurd (false≢true (all_get IsPlainWord xs k Ecall h e).anywhere);
}

-- jumps that lead to themselves
pub contained_still : (xs : List Instr) → ((k : ℕ) (i : Instr) → slice_get xs k ≡ Some i → offset_of i ≡ Some (pos 0))
    → AreContained (length xs) xs
contained_still xs h = record {
  allowed = λ k i e. jump_allowed i (pos 0) (h k i e);
  leads = λ k i z e o.
      let same : pos 0 ≡ z = same_Some (pos 0) z (sym (h k i e) ∙ o) in
      record {
        word = k;
        there = subst (λ (y : ℤ). pos (4 * k) ≡ pos (4 * k) +ℤ y) same (omega (arith, ints));
        target = record { below = slice_get_within xs k i e; no_call = λ c. jump_no_call (pos 0) (h k Ecall c) };
      };
  numbered = λ k e. absurd (jump_no_call (pos 0) (h k Ecall e));
}

pub contained_service : (end : ℕ) (i : Instr) → IsPlainWord i → sets_service i ≡ true
    → AreContained end (i ∷ Ecall ∷ [])
contained_service end i p s = record { allowed = allowed; leads = leads; numbered = numbered }
  where
    allowed : (k : ℕ) (j : Instr) → slice_get (i ∷ Ecall ∷ []) k ≡ Some j → is_allowed j ≡ true
    allowed zero j e = subst (λ (x : Instr). is_allowed x ≡ true) (same_Some i j e) (plain_allowed i p.anywhere)
    allowed (suc zero) j e = subst (λ (x : Instr). is_allowed x ≡ true) (same_Some Ecall j e) refl
    allowed (suc (suc k)) j e = absurd cc

    leads : (k : ℕ) (j : Instr) (z : ℤ) → slice_get (i ∷ Ecall ∷ []) k ≡ Some j → offset_of j ≡ Some z
        → Leads end (i ∷ Ecall ∷ []) k z
    leads zero j z e o = let n = plain_still i p.anywhere in let q = same_Some i j e in absurd (cc (n, o, q))
    leads (suc zero) j z e o =
        absurd (jump_no_call z (subst (λ (x : Instr). offset_of x ≡ Some z) (sym (same_Some Ecall j e)) o))
    leads (suc (suc k)) j z e o = absurd cc

    numbered : (k : ℕ) → slice_get (i ∷ Ecall ∷ []) k ≡ Some Ecall → FollowsService (i ∷ Ecall ∷ []) k
    numbered zero e =
        absurd (false≢true (subst (λ (x : Instr). stands_anywhere x ≡ true) (same_Some i Ecall e) p.anywhere))
    numbered (suc zero) e = record { before = 0; next = omega arith; sets = i; is = refl; service = s }
    numbered (suc (suc k)) e = absurd cc

-- ---- one behind the other

-- contained code begins with no `ecall`
pub no_first : (end : ℕ) (xs : List Instr) → AreContained end xs → slice_get xs 0 ≡ Some Ecall → ⊥
no_first end xs c e = let f = c.numbered 0 e in let n = f.next in omega arith

pub target_left : (a b : List Instr) (near end k : ℕ) → IsTarget near a k → near ≤ length a + 1 → near ≤ end
    → (slice_get b 0 ≡ Some Ecall → ⊥) → IsTarget end (a ++ b) k
target_left a b near end k t h j n = record {
  below = let l = t.below in omega arith;
  no_call = λ e. ⊎_elim
      (λ (p : (k < length a) × (slice_get a k ≡ Some Ecall)). t.no_call p.1)
      (λ (q : (j : ℕ) × (k ≡ length a + j) × (slice_get b j ≡ Some Ecall)).
      let l = t.below in
      let at = q.1 in
      let z : q.0 ≡ 0 = omega arith in
      n (ap (slice_get b) (sym z) ∙ q.2))
      (in_either a b k Ecall e);
}

target_right : (a b : List Instr) (far end k : ℕ) → IsTarget far b k → length a + far ≤ end
    → IsTarget end (a ++ b) (length a + k)
target_right a b far end k t h = record {
  below = let l = t.below in omega arith;
  no_call = λ e. t.no_call (sym (get_right a b k) ∙ e);
}

further : (n w k : ℕ) (z : ℤ) → pos (4 * w) ≡ pos (4 * k) +ℤ z → pos (4 * (n + w)) ≡ pos (4 * (n + k)) +ℤ z
further n w k z e = omega (arith, ints, e)

pub contained_append : (a b : List Instr) (near far end : ℕ) → AreContained near a → AreContained far b
    → near ≤ length a + 1 → near ≤ end → length a + far ≤ end → AreContained end (a ++ b)
contained_append a b near far end ca cb h j g = record {
  allowed = λ k i e. ⊎_elim
      (λ (p : (k < length a) × (slice_get a k ≡ Some i)). ca.allowed k i p.1)
      (λ (q : (j : ℕ) × (k ≡ length a + j) × (slice_get b j ≡ Some i)). cb.allowed q.0 i q.2)
      (in_either a b k i e);
  leads = λ k i z e o. ⊎_elim
      (λ (p : (k < length a) × (slice_get a k ≡ Some i)).
      let l = ca.leads k i z p.1 o in
      let whole : Leads end (a ++ b) k z = record {
        word = l.word;
        there = l.there;
        target = target_left a b near end l.word l.target h j (no_first far b cb);
      } in
      whole)
      (λ (q : (j : ℕ) × (k ≡ length a + j) × (slice_get b j ≡ Some i)).
      let l = cb.leads q.0 i z q.2 o in
      let whole : Leads end (a ++ b) (length a + q.0) z = record {
        word = length a + l.word;
        there = further (length a) l.word q.0 z l.there;
        target = target_right a b far end l.word l.target g;
      } in
      subst (λ (n : ℕ). Leads end (a ++ b) n z) (sym q.1) whole)
      (in_either a b k i e);
  numbered = λ k e. ⊎_elim
      (λ (p : (k < length a) × (slice_get a k ≡ Some Ecall)).
      let f = ca.numbered k p.1 in
      let whole : FollowsService (a ++ b) k = record {
        before = f.before;
        next = f.next;
        sets = f.sets;
        is = get_left a b f.before (slice_get_within a f.before f.sets f.is) ∙ f.is;
        service = f.service;
      } in
      whole)
      (λ (q : (j : ℕ) × (k ≡ length a + j) × (slice_get b j ≡ Some Ecall)).
      let f = cb.numbered q.0 q.2 in
      let n = f.next in
      let at = q.1 in
      let whole : FollowsService (a ++ b) k = record {
        before = length a + f.before;
        next = omega arith;
        sets = f.sets;
        is = get_right a b f.before ∙ f.is;
        service = f.service;
      } in
      whole)
      (in_either a b k Ecall e);
}

-- ---- jumps that are led

pub target_led : (xs : List Instr) (end k w : ℕ) (i j : Instr) (z : ℤ) → slice_get xs k ≡ Some i → IsLed i z j
    → IsTarget end xs w → IsTarget end (set xs k j) w
target_led xs end k w i j z e l t = record {
  below = t.below;
  no_call = λ c. ⊎_elim
      (λ (p : (w ≡ k) × (j ≡ Ecall)). jump_no_call z (subst (λ (x : Instr). offset_of x ≡ Some z) p.1 l.by))
      (λ (q : (w ≡ k → ⊥) × (slice_get xs w ≡ Some Ecall)). t.no_call q.1)
      (in_set xs k j w Ecall (slice_get_within xs k i e) c);
}

pub contained_led : (xs : List Instr) (end k w : ℕ) (i j : Instr) (z : ℤ) → AreContained end xs
    → slice_get xs k ≡ Some i → IsLed i z j → IsTarget end xs w → pos (4 * w) ≡ pos (4 * k) +ℤ z
    → AreContained end (set xs k j)
contained_led xs end k w i j z c e l t h = record {
  allowed = λ m a g. ⊎_elim
      (λ (p : (m ≡ k) × (j ≡ a)). subst (λ (x : Instr). is_allowed x ≡ true) p.1 (jump_allowed j z l.by))
      (λ (q : (m ≡ k → ⊥) × (slice_get xs m ≡ Some a)). c.allowed m a q.1)
      (was m a g);
  leads = λ m a y g o. ⊎_elim
      (λ (p : (m ≡ k) × (j ≡ a)).
      let same : z ≡ y = same_Some z y (sym l.by ∙ subst (λ (x : Instr). offset_of x ≡ Some y) (sym p.1) o) in
      let here : Leads end (set xs k j) k z = record {
        word = w;
        there = h;
        target = target_led xs end k w i j z e l t;
      } in
      subst (λ (n : ℕ). Leads end (set xs k j) n y) (sym p.0)
      (subst (λ (x : ℤ). Leads end (set xs k j) k x) same here))
      (λ (q : (m ≡ k → ⊥) × (slice_get xs m ≡ Some a)).
      let d = c.leads m a y q.1 o in
      let there : Leads end (set xs k j) m y = record {
        word = d.word;
        there = d.there;
        target = target_led xs end k d.word i j z e l d.target;
      } in
      there)
      (was m a g);
  numbered = λ m g. ⊎_elim
      (λ (p : (m ≡ k) × (j ≡ Ecall)). absurd (jump_no_call z (subst (λ (x : Instr). offset_of x ≡ Some z) p.1 l.by)))
      (λ (q : (m ≡ k → ⊥) × (slice_get xs m ≡ Some Ecall)).
      let f = c.numbered m q.1 in
      let other : f.before ≡ k → ⊥ = λ n.
      let same : i ≡ f.sets = same_Some i f.sets (sym e ∙ ap (slice_get xs) (sym n) ∙ f.is) in
      false≢true
      (sym (jump_sets i l.before l.leads) ∙ subst (λ (x : Instr). sets_service x ≡ true)
      (sym same) f.service) in
      let whole : FollowsService (set xs k j) m = record {
        before = f.before;
        next = f.next;
        sets = f.sets;
        is = set_other xs k f.before j other ∙ f.is;
        service = f.service;
      } in
      whole)
      (was m Ecall g);
}
  where
    was : (m : ℕ) (a : Instr) → slice_get (set xs k j) m ≡ Some a → InSet xs k j m a
    was m a g = in_set xs k j m a (slice_get_within xs k i e) g
