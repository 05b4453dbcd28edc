-- The operations of the strict meaning and those under a map keep memories standing for one another.
use Rattle.std.proofs.Common.{◌≡◌, ℕ, ◌+◌, ◌-◌, ◌%◌, ◌^◌, ◌<◌, ◌≤◌, Bool, true, false, List, length, Option, Some}
use Rattle.std.proofs.Common.{Result, Ok, Err, refl, sym, ap, ◌∙◌, subst, inl, inr, arith}
use Rattle.std.specs.Prelude.{slice_get, if◌then◌else◌}
use Rattle.std.proofs.lemmas.Bool.{cases_lt}
use Rattle.std.proofs.lemmas.Bool.Decides.{nat_tests}
use Rattle.ck_int.specs.declared.kinds.IntKind.{IntKind}
use Rattle.ck_int.specs.declared.kinds.IntOp.{IntOp}
use Rattle.ck_int.specs.Arithmetic.{binary_of}
use Rattle.ck_int.specs.Kinds.{value_of}
use Rattle.ck_int.proofs.Laws.{IsKept-below, IsKept-binary_of}
use Rattle.cap_concentrate.specs.Rounding.{alignment, owned}
use Rattle.cap_concentrate.proofs.Owned.{owned_ge, alignment_pos}
use Rattle.obj_mem.specs.declared.map.Map.{Map}
use Rattle.obj_mem.specs.declared.ending.Fault.{Fault}
use Rattle.obj_mem.specs.declared.ending.Fault.TheVariants as F
use Rattle.obj_mem.specs.declared.ending.Reason.TheVariants as reason
use Rattle.obj_mem.specs.Values.{Value, Int, Live, Fun, Raw, Addresses}
use Rattle.obj_mem.specs.Objects.{Shape, Placed, Strict, owned_of_shape, whole_pointer}
use Rattle.obj_mem.specs.Access.{unspecified, onward}
use Rattle.obj_mem.specs.Pointers.{get_tag}
use Rattle.obj_mem.specs.Comparisons.{is_low, unequal_where, equal}
use Rattle.obj_mem.specs.Table.{addresses_of}
use Rattle.obj_mem.specs.Agreement.{Paired, SameShape, Answers}
use Rattle.obj_mem.specs.Standing.{IsGood, IsSpread, PointersAgree}
use Rattle.obj_mem.proofs.Pairs as pairs
use Rattle.obj_mem.proofs.Pairs.{neither, both, get_both}
use Rattle.obj_mem.proofs.Agree.{pointers_agree_law}
use Rattle.obj_mem.proofs.Units.{memory_agrees_law}
use Rattle.cheri_c_sem.specs.Kinds.{number_of, truth, null_at}
use Rattle.cheri_c_sem.specs.Operations.{Work, Base, Offset, Length, Tag, Perms, Clear, Set_address, And_perms}
use Rattle.cheri_c_sem.specs.Operations.{Equal_exact, Rounded, Mask}
use Rattle.cheri_c_sem.specs.Modes.{Store, int_of, is_undefined, work_of, overlap_of, laps, operations, placed_plan}
use Rattle.cheri_c_sem.specs.Modes.{strict_plan}
use Rattle.cheri_c_sem.specs.Tree.{Fun as Function}
use Rattle.placement.specs.Relations.{IsWord, Both, Order, Keeps}
use Rattle.placement.specs.Memories.{IsThere, IsLaid, Stand, memories, FramesFit}
use Rattle.placement.proofs.Shapes.{keeps_same, keeps_twice, stack_same, stack_twice, good_later}
use Rattle.placement.proofs.Good.{WhereOk, both_ways, move_good, narrow_good, clear_good, mask_good, address_good}
use Rattle.placement.proofs.Good.{set_good, base_good, length_good, offset_good, permissions_good, whole_good}
use Rattle.placement.proofs.Stored.{load_good}
use Rattle.placement.proofs.Changes as changes
use Rattle.placement.proofs.Added.{allocations}
use Rattle.placement.proofs.Entered.{room_for, entry}

-- what is made of answers that agree
made : {A B : Type 0} (P : A → Type 0) (Q : B → Type 0) (f : A → B) → ((v : A) → P v → Q (f v))
    → (x y : Result A Fault) → Answers (Both P) x y → Answers (Both Q) (onward x (λ v. Ok (f v)))
    (onward y (λ v. Ok (f v)))
made P Q f h (Ok v) (Ok w) g = (ap f g.0, h v g.1)
made P Q f h (Ok v) (Err e) g = absurd g
made P Q f h (Err (F.Cause c)) y g = subst (λ z. onward z (λ v. Ok (f v)) ≡ Err (F.Cause c)) (sym g) refl
made P Q f h (Err F.Outside) y g = tt
made P Q f h (Err (F.Unspecified u)) y g = tt

-- an integer operation
ints_of : (a : Addresses) (op : IntOp) (k count : IntKind) (x y : ℕ)
    → Answers (Both IsWord) (int_of Strict op k count x y) (int_of (Placed a) op k count x y)
ints_of a op k count x y = go (is_undefined op k (value_of k x) (value_of count y))
  where
    go : (b : Bool) → Answers (Both IsWord) (if b then unspecified reason.Undefined else Ok (binary_of op k x y))
        (Ok (binary_of op k x y))
    go true = tt
    go false = (refl, IsKept-below k _ (IsKept-binary_of op k x y))

overlap_tested : (b : Bool)
    → Answers {A = Unit {0}} {B = Unit {0}} ◌≡◌ (if b then unspecified reason.Overlap else Ok tt) (Ok tt)
overlap_tested true = tt
overlap_tested false = refl

overlaps_of : (a : Addresses) (v w : Value) (bytes : ℕ)
    → Answers ◌≡◌ (overlap_of Strict v w bytes) (overlap_of (Placed a) v w bytes)
overlaps_of a v w bytes = overlap_tested (laps v w bytes)

word_of : (s : List Shape) (functions : ℕ) (v : Value) → IsGood s functions v → IsWord (number_of v)
word_of s functions (Int n) g = g
word_of s functions (Live o low high at p) g = omega arith
word_of s functions (Fun f) g = omega arith
word_of s functions (Raw x u) g = omega arith

truth_is : (s : List Shape) (functions : ℕ) (b : Bool) → IsGood s functions (truth b)
truth_is s functions true = omega arith
truth_is s functions false = omega arith

-- the pointer to an object that is there
whole_both : (s t : List Shape) (functions : ℕ) (a : Addresses) → Paired SameShape s t → IsSpread t functions a
    → (k p : ℕ) → p < 4096 → IsThere s k → Both (IsGood s functions) (whole_pointer s k p) (whole_pointer t k p)
whole_both s t functions a same sp k p twelve there =
    go (slice_get s k) (slice_get t k) (get_both SameShape k s t same) refl refl
  where
    go : (o o' : Option Shape) → pairs.Both SameShape o o' → slice_get s k ≡ o → slice_get t k ≡ o'
        → Both (IsGood s functions) (Live k 0 (owned_of_shape o) 0 p) (Live k 0 (owned_of_shape o') 0 p)
    go o o' neither e f = absurd (let h : slice_get s k ≡ Some there.0 = there.1 in cc)
    go o o' (both u v r) e f =
        let based = sp.placed k v f in
        let to = based.to in
        let is = based.owned_is in
        let ge = owned_ge v.length in
        let length_same = r.length in (
          ap (λ n. Live k 0 n 0 p) r.owned,
          whole_good s functions k p u e
              (r.owned ∙ based.owned_is ∙ ap owned (sym r.length)) (omega (arith, to, is, ge, length_same)) twelve,
        )

module _ (globals : ℕ) (funs : List Function) (m : Map) (laid : IsLaid (addresses_of m) m.stack.0 m.stack.1)
    (frames : FramesFit funs m.frames) where
  abbrev a : Addresses
  a = addresses_of m

  module _ (objects first frame : ℕ) (s p : Store)
      (e : Stand globals (length funs) a m.stack.0 m.stack.1 objects first frame s p) where
    abbrev Good : Value → Type 0
    Good v = IsGood s.memory.shapes (length funs) v

    agree : PointersAgree s.memory.shapes p.memory.shapes (length funs) a
    agree = pointers_agree_law s.memory.shapes p.memory.shapes (length funs) a e.same.shapes e.spread

    high : (c : ℕ) → 2 ^ 64 ≤ c → is_low c ≡ false
    high c h = grind (arith, nat_tests)

    -- an address that no capability has is no low one
    high_label : (v : Value) (c : ℕ) → 2 ^ 64 ≤ c → Answers ◌≡◌ (equal Strict s.memory.shapes v (null_at c))
        (equal (Placed a) p.memory.shapes v (null_at c))
    high_label (Int x) c h = tt
    high_label (Raw x u) c h = refl
    high_label (Live o low top at q) c h =
        subst (λ b. Answers ◌≡◌ (unequal_where b)
        (equal (Placed a) p.memory.shapes (Live o low top at q) (null_at c))) (sym (high c h)) tt
    high_label (Fun f) c h =
        subst (λ b. Answers ◌≡◌ (unequal_where b) (equal (Placed a) p.memory.shapes (Fun f) (null_at c)))
        (sym (high c h)) tt

    labels_of : (v : Value) (c : ℕ) → Good v → Answers ◌≡◌ (equal Strict s.memory.shapes v (null_at c))
        (equal (Placed a) p.memory.shapes v (null_at c))
    labels_of v c g = elim (cases_lt c (2 ^ 64)) as
        (λ _. Answers ◌≡◌ (equal Strict s.memory.shapes v (null_at c))
        (equal (Placed a) p.memory.shapes v (null_at c))) [
          | inl word ↦ agree.equalities v (null_at c) g (word, let z : 0 < 2 ^ 64 = omega arith in z)
          | inr far ↦ high_label v c far
        ]

    works_of : (work : Work) (v w : Value) → Good v → Good w → Answers (Both Good) (work_of Strict s work v w)
        (work_of (Placed a) p work v w)
    works_of Base v w g h = made IsWord Good (λ n. Int n)
        (λ n b. b) _ _ (both_ways IsWord _ _ (agree.bases v) (base_good s.memory.shapes (length funs) v))
    works_of Offset v w g h = made IsWord Good (λ n. Int n)
        (λ n b. b) _ _ (both_ways IsWord _ _ (agree.offsets v) (offset_good s.memory.shapes (length funs) v g))
    works_of Length v w g h = made IsWord Good (λ n. Int n)
        (λ n b. b) _ _ (both_ways IsWord _ _ (agree.lengths v) (length_good s.memory.shapes (length funs) v))
    works_of Tag v w g h = (refl, truth_is s.memory.shapes (length funs) (get_tag v))
    works_of Perms v w g h = (refl, permissions_good s.memory.shapes (length funs) v g)
    works_of Clear v w g h = both_ways Good _ _ (agree.clears v) (clear_good s.memory.shapes (length funs) v g)
    works_of Set_address v w g h = both_ways Good _ _ (agree.sets v (number_of w))
        (set_good s.memory.shapes (length funs) v (number_of w) g (word_of s.memory.shapes (length funs) w h))
    works_of And_perms v w g h = both_ways Good _ _ (agree.masks v (number_of w))
        (mask_good s.memory.shapes (length funs) v (number_of w) g)
    works_of Equal_exact v w g h = made (λ b. Unit {0}) Good truth (λ b x. truth_is s.memory.shapes (length funs) b)
        _ _ (both_ways (λ b. Unit {0}) _ _ (agree.identities v w g h) (anything _))
      where
        anything : (x : Result Bool Fault) → WhereOk (λ b. Unit {0}) x
        anything (Ok x) = tt
        anything (Err f) = tt
    works_of Rounded v w g h = (refl, let z : owned (number_of v) % 2 ^ 64 < 2 ^ 64 = omega arith in z)
    works_of Mask v w g h = (
      refl,
      let z : 2 ^ 64 - alignment (number_of v) < 2 ^ 64 = omega
          (arith, alignment_pos (number_of v)) in z,
    )

  in_order : Order (memories globals (length funs) a m.stack.0 m.stack.1)
  in_order = record {
    same = λ s p. record {
      strict = keeps_same s.memory.shapes;
      placed = keeps_same p.memory.shapes;
      kept_stack = stack_same m.stack.0 m.stack.1 p.memory.shapes;
    };
    twice = λ s s' s'' p p' p'' x y. record {
      strict = keeps_twice _ _ _ x.strict y.strict;
      placed = keeps_twice _ _ _ x.placed y.placed;
      kept_stack = stack_twice m.stack.0 m.stack.1 _ _ _ x.kept_stack y.placed y.kept_stack;
    };
    climbs = λ s s' p p' v l g. good_later s.memory.shapes s'.memory.shapes (length funs) l.strict v g;
  }

  pub keeps : Keeps (memories globals (length funs) a m.stack.0 m.stack.1) (operations strict_plan)
      (operations (placed_plan m)) globals (length funs) funs
  unfolding operations
  keeps = record {
    order = in_order;
    words = λ s x h. h;
    word = λ s v g. word_of s.memory.shapes (length funs) v g;
    nulls = λ s x h. (h, let z : 0 < 2 ^ 64 = omega arith in z);
    sentries = λ s f h. h;
    ints = ints_of a;
    addresses = λ objects first frame s p e v g. both_ways IsWord _ _ ((agree objects first frame s p e).addresses v)
        (address_good s.memory.shapes (length funs) v g);
    comparisons = λ objects first frame s p e op signed v w g h. (agree objects first frame s p e).comparisons signed
        op v w g h;
    labels = λ objects first frame s p e signed v c g. labels_of objects first frame s p e v c g;
    differences = λ objects first frame s p e v w g h. (agree objects first frame s p e).distances v w g h;
    offsets = λ objects first frame s p e v by g. both_ways (IsGood s.memory.shapes (length funs)) _ _
        ((agree objects first frame s p e).moves v g by) (move_good s.memory.shapes (length funs) v by g);
    narrows = λ objects first frame s p e v n exact g. both_ways (IsGood s.memory.shapes (length funs)) _ _
        ((agree objects first frame s p e).narrows v g n exact) (narrow_good s.memory.shapes (length funs) v n g);
    works = λ objects first frame s p e work v w g h. works_of objects first frame s p e work v w g h;
    overlaps = overlaps_of a;
    unset = λ s k. tt;
    falls = λ s k. tt;
    local_pointers = λ objects first frame s p e i l. let alive = e.locals_alive i l in
        whole_both s.memory.shapes p.memory.shapes (length funs) a e.same.shapes e.spread (first + i) 125
        (omega arith) (alive.0, alive.1);
    global_pointers = λ objects first frame s p e i permissions l twelve. whole_both s.memory.shapes p.memory.shapes
        (length funs) a e.same.shapes e.spread i permissions twelve (e.globals_there i l);
    loads = λ objects first frame s p e v j. both_ways (IsGood s.memory.shapes (length funs)) _ _
        ((memory_agrees_law a).loads s.memory p.memory e.same v _)
        (load_good s.memory.shapes (length funs) s.memory e.contents v j);
    stores = λ objects first frame s p e v x k g. changes.stores globals (length funs) a m.stack.0 m.stack.1 objects
        first frame s p e v x k g;
    copies = λ objects first frame s p e v w k. changes.copies globals (length funs) a m.stack.0 m.stack.1 objects
        first frame s p e v w k;
    notes = λ objects first frame s p e v own. changes.notes globals (length funs) a m.stack.0 m.stack.1 objects
        first frame s p e v own;
    zeros = λ objects first frame s p e i l. changes.zeros globals (length funs) a m.stack.0 m.stack.1 objects first
        frame s p e i l;
    leaves = λ objects first frame s p e i l. changes.leaves globals (length funs) a m.stack.0 m.stack.1 objects
        first frame s p e i l;
    allocations = λ objects first frame s p e n w. allocations globals (length funs) a m.stack.0 m.stack.1 laid
        objects first frame s p e n;
    rooms = λ i at. (at, refl);
    entries = λ objects first frame s p e i f is at here q.
        let r = room_for m i frame here q in
        entry globals (length funs) m laid objects first frame s p e i at here r f.objects (frames i f r.it is r.is);
  }
