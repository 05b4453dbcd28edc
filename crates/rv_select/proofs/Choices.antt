-- What is appended for temps has the forms of words.
use Rattle.std.proofs.Common.{◌≡◌, ◌≢◌, ℕ, ◌<◌, ℤ, pos, [], ◌∷◌, ◌++◌, None, refl, sym, ap, ◌∙◌, subst}
use Rattle.std.proofs.Common.{arith}
use Rattle.rv_instr.specs.declared.instr.Instr.TheVariants.{CapGet}
use Rattle.rv_instr.specs.declared.ops.CapGetOp.TheVariants.{Cmove}
use Rattle.ck_int.specs.Kinds.{kept_of}
use Rattle.cap_machine.specs.Integers.{extended}
use Rattle.purecap_abi.specs.Words.{load_code, store_code}
use Rattle.select_words.specs.Selecting.{Selecting}
use Rattle.select_words.specs.Emitted as emitted
use Rattle.select_words.specs.Emitted.{Operand, Target, Keep}
use Rattle.select_words.specs.Words as words
use Rattle.select_words.specs.Words.{Constant, Bring, Copied}
use Rattle.rv_select.specs.declared.homes.Place.{Place}
use Rattle.rv_select.specs.declared.homes.Place.TheVariants as place
use Rattle.rv_select.specs.Choosing.{AreReached, IsFound}
use Rattle.rv_emit.specs.Growing.{Size, Puts, IsWordNumber, IsLongNumber, reach}
use Rattle.rv_emit.proofs.Appended.{puts_none, puts_map, puts_then}

-- ---- where temps are found

module _ (s : Selecting) (t : ℕ) (old new : Size) where
  module _ (scratch : ℕ) where
    pub operand_nothing : (found : Place) → IsFound s t found → found ≡ place.Number (pos 0)
        → Puts (λ ws. Operand s t scratch ws 0) old old
    unfolding kept_of
    operand_nothing found n e = puts_none (λ ws. Operand s t scratch ws 0) old
        (emitted.Nothing (subst (IsFound s t) e n) refl refl)

    pub operand_made : (v w : ℤ) → w ≡ v → IsFound s t (place.Number v) →
        Puts (IsWordNumber scratch (extended w)) old new
        → Puts (λ ws. Operand s t scratch ws scratch) old new
    operand_made v w e n p = puts_map (IsWordNumber scratch (extended w)) (λ ws. Operand s t scratch ws scratch) old new
        (λ ws h. emitted.Made (extended w) (subst (λ x. IsFound s t (place.Number x)) (sym e) n) h.makes h.few refl) p

    pub operand_at_home : (r x : ℕ) → AreReached s → IsFound s t (place.Register r) → (r < 32 → x ≡ r)
        → Puts (λ ws. Operand s t scratch ws x) old old
    operand_at_home r x a i e = puts_none (λ ws. Operand s t scratch ws x) old
        (emitted.AtHome (subst (emitted.IsIn s t) (sym (e (a.registers t r i).1)) i) refl)

    pub operand_loaded : (at : ℕ) → AreReached s → IsFound s t (place.Slot at)
        → (at < reach → new.text ≡ old.text ++ load_code scratch 2 at scratch)
        → Puts (λ ws. Operand s t scratch ws scratch) old new
    operand_loaded at a i e = record {
      added = load_code scratch 2 at scratch;
      is = e (a.slots t at i);
      are = emitted.Loaded at i refl refl;
    }

  module _ (r : ℕ) where
    pub bring_made : (v w : ℤ) → w ≡ v → IsFound s t (place.Number v) → Puts (IsWordNumber r (extended w)) old new
        → Puts (Bring s t r) old new
    bring_made v w e n p = puts_map (IsWordNumber r (extended w)) (Bring s t r) old new
        (λ ws h. words.Made (extended w) (subst (λ x. IsFound s t (place.Number x)) (sym e) n) h.makes h.few) p

    pub bring_there : (q : ℕ) → IsFound s t (place.Register q) → q ≡ r → Puts (Bring s t r) old old
    bring_there q i e = puts_none (Bring s t r) old (words.There (subst (emitted.IsIn s t) e i) refl)

    pub bring_moved : (q x : ℕ) → AreReached s → IsFound s t (place.Register q) → q ≢ r → (q < 32 → x ≡ q)
        → new.text ≡ old.text ++ CapGet Cmove r x ∷ [] → Puts (Bring s t r) old new
    bring_moved q x a i d e f = record {
      added = CapGet Cmove r q ∷ [];
      is = f ∙ ap (λ y. old.text ++ CapGet Cmove r y ∷ []) (e (a.registers t q i).1);
      are = words.Moved q i d refl;
    }

    pub bring_loaded : (at : ℕ) → AreReached s → IsFound s t (place.Slot at)
        → (at < reach → new.text ≡ old.text ++ load_code r 2 at r) → Puts (Bring s t r) old new
    bring_loaded at a i e = record { added = load_code r 2 at r; is = e (a.slots t at i); are = words.Loaded at i refl }

  module _ (from : ℕ) where
    pub keep_needless : (v : ℤ) → IsFound s t (place.Number v) → Puts (Keep s t from) old old
    keep_needless v n = puts_none (Keep s t from) old (emitted.Needless (extended v) n refl)

    pub keep_stays : (q : ℕ) → IsFound s t (place.Register q) → q ≡ from → Puts (Keep s t from) old old
    keep_stays q i e = puts_none (Keep s t from) old (emitted.Stays (subst (emitted.IsIn s t) e i) refl)

    pub keep_moved : (q x : ℕ) → AreReached s → IsFound s t (place.Register q) → q ≢ from → (q < 32 → x ≡ q)
        → new.text ≡ old.text ++ CapGet Cmove x from ∷ [] → Puts (Keep s t from) old new
    keep_moved q x a i d e f = record {
      added = CapGet Cmove q from ∷ [];
      is = f ∙ ap (λ y. old.text ++ CapGet Cmove y from ∷ []) (e (a.registers t q i).1);
      are = emitted.Moved q i d refl;
    }

    pub keep_stored : (at way : ℕ) → way ≡ 31 → AreReached s → IsFound s t (place.Slot at)
        → (at < reach → new.text ≡ old.text ++ store_code from 2 at way) → Puts (Keep s t from) old new
    keep_stored at way w a i e = record {
      added = store_code from 2 at 31;
      is = e (a.slots t at i) ∙ ap (λ y. old.text ++ store_code from 2 at y) w;
      are = emitted.Stored at i refl;
    }

  pub target_own : (r x : ℕ) → AreReached s → IsFound s t (place.Register r) → (r < 32 → x ≡ r) → Target s t x
  target_own r x a i e = emitted.Own (subst (emitted.IsIn s t) (sym (e (a.registers t r i).1)) i)

pub target_left : (s : Selecting) (t : ℕ) (found : Place) → IsFound s t found
    → ((r : ℕ) → found ≡ place.Register r → ⊥) → (left : ℕ) → left ≡ 28 → Target s t left
target_left s t (place.Number v) i n left e = emitted.Number (extended v) i e
target_left s t (place.Register r) i n left e = absurd (n r refl)
target_left s t (place.Slot at) i n left e = emitted.Spilled at i e

-- the register in which a temp is computed is not x0
pub target_above : (s : Selecting) (t r : ℕ) → AreReached s → Target s t r → 0 < r
target_above s t r a (emitted.Own i) = (a.registers t r i).0
target_above s t r a (emitted.Number v n e) = omega arith
target_above s t r a (emitted.Spilled at i e) = omega arith

-- ---- constants and copies

-- a temp that is no number, and not in a register
spilled : (s : Selecting) (t : ℕ) (found : Place) → IsFound s t found → ((r : ℕ) → found ≡ place.Register r → ⊥)
    → s.numbers t ≡ None → (at : ℕ) × emitted.IsSpilled s t at
spilled s t (place.Number v) i d n = absurd (cc (i, n))
spilled s t (place.Register r) i d n = absurd (d r refl)
spilled s t (place.Slot at) i d n = (at, i)

module _ (s : Selecting) (to : ℕ) (old mid new : Size) where
  pub constant_built : (value r : ℕ) → AreReached s → s.numbers to ≡ None → Target s to r
      → (0 < r → Puts (IsLongNumber r value) old mid) → Puts (Keep s to r) mid new → Puts (Constant s to value) old new
  constant_built value r a n t m k =
      puts_then (IsLongNumber r value) (Keep s to r) (Constant s to value) old mid new (m (target_above s to r a t)) k
      (λ ms ks l h. words.Built n r t ms ks l.makes l.few h refl)

  pub copied_brought : (from r x : ℕ) → AreReached s → IsFound s to (place.Register r) → (r < 32 → x ≡ r)
      → (0 < x → Puts (Bring s from x) old new) → Puts (Copied s to from) old new
  copied_brought from r x a i e m =
      let both = a.registers to r i in
      let same = e both.1 in
      let above : 0 < x = omega (arith, both.0, same) in
      puts_map (Bring s from x) (Copied s to from) old new
      (λ ws b. words.Brought x (subst (emitted.IsIn s to) (sym same) i) b) (m above)

  pub copied_kept : (from a left : ℕ) (found : Place) → IsFound s to found → ((r : ℕ) → found ≡ place.Register r → ⊥)
      → s.numbers to ≡ None → left ≡ 28 → Puts (λ ws. Operand s from left ws a) old mid → Puts (Keep s to a) mid new
      → Puts (Copied s to from) old new
  copied_kept from a left found i d n e o k =
      let home = spilled s to found i d n in
      puts_then (λ ws. Operand s from left ws a) (Keep s to a) (Copied s to from) old mid new o k
      (λ fs ks f h. words.Kept home.0 home.1 a fs ks (subst (λ y. Operand s from y fs a) e f) h refl)
