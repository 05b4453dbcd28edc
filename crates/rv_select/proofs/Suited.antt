-- What is asked of a function's code and its homes gives what is asked for the words of each of its instructions.
use Rattle.std.proofs.Common.{◌≡◌, ◌⊎◌, ℕ, zero, suc, ◌+◌, ◌*◌, ◌<◌, ◌≤◌, List, [], ◌∷◌, ◌++◌, length, refl, sym}
use Rattle.std.proofs.Common.{ap, ◌∙◌}
use Rattle.std.proofs.Common.{subst, arith, ⊎_elim}
use Rattle.std.proofs.lemmas.Bool.{cases_order}
use Rattle.std.specs.Prelude.{Option, Some, None, slice_get}
use Rattle.std.specs.List.{Contains}
use Rattle.cap_machine.specs.Integers.{extended}
use Rattle.obj_mem.specs.declared.map.Frame.{Frame}
use Rattle.reg_alloc.specs.declared.places.Home.{Home}
use Rattle.reg_alloc.specs.declared.places.Home.TheVariants.{Slot}
use Rattle.purecap_abi.specs.Saving.{IsFor, slot_count, slots_to, slots_at}
use Rattle.tac_ir.specs.Temps as temps
use Rattle.tac_ir.specs.Temps.{names, writes, in_option}
use Rattle.tac_ir.specs.declared.code.Amount.{Amount}
use Rattle.tac_ir.specs.declared.code.Amount.TheVariants as amount
use Rattle.tac_ir.specs.declared.code.LibOp.{LibOp}
use Rattle.tac_ir.specs.declared.code.LibOp.TheVariants as lib
use Rattle.tac_ir.specs.declared.code.TacFun.{TacFun}
use Rattle.tac_ir.specs.declared.code.TacInstr.{TacInstr}
use Rattle.tac_ir.specs.declared.code.TacInstr.TheVariants as instr
use Rattle.tac_ir.specs.declared.code.TacKind.{TacKind}
use Rattle.rv_select.specs.declared.function.Function.{Function}
use Rattle.rv_select.specs.declared.numbers.Written.{Written}
use Rattle.rv_select.specs.declared.numbers.Written.TheVariants.{Nothing, Number, Values}
use Rattle.rv_select.specs.Choosing.{chosen, number_in, AreReached, Chooses, ChoosesSome, ChoosesFirst, ChoosesAmount}
use Rattle.rv_select.specs.Choosing.{Stands, ReachesHeap}
use Rattle.rv_emit.specs.Growing.{reach}
use Rattle.rv_select.specs.Parameters.{TakesParameters}
use Rattle.rv_select.specs.Passed.{ChoosesArguments}
use Rattle.rv_select.specs.Selectable.{IsSelectable, IsFormed, table_of}
use Rattle.rv_select.specs.Selected.{AreNumbers}
use Rattle.rv_select.specs.Suiting as suiting
use Rattle.rv_select.specs.Suiting.{Suits}
use Rattle.rv_select.specs.Written.{Gives, AreWritten}

-- ---- numbers

-- the entry of a number
number_entry : (ws : List Written) (t n : ℕ) → number_in (slice_get ws t) ≡ Some n
    → (v : _) × (slice_get ws t ≡ Some (Number v)) × (n ≡ extended v)
number_entry ws t n e = by (slice_get ws t) refl e
  where
    by : (w : Option Written) → slice_get ws t ≡ w → number_in w ≡ Some n
        → (v : _) × (slice_get ws t ≡ Some (Number v)) × (n ≡ extended v)
    by (Some (Number v)) is e = (v, is, cc)
    by (Some Nothing) is e = absurd cc
    by (Some Values) is e = absurd cc
    by None is e = absurd cc

pub numbered : (t : TacFun) (ws : List Written) → AreWritten t ws → AreNumbers t (λ temp. number_in (slice_get ws temp))
numbered t ws a = record {
  parameters = λ k lt. none k (slice_get ws k) refl lt;
  constants = λ i among temp n wrote e.
      let found = number_entry ws temp n e in
      subst (λ v. Gives temp v i) (sym found.2) ((a.each temp (Number found.0) found.1).1 i among wrote);
}
  where
    none : (k : ℕ) (w : Option Written) → slice_get ws k ≡ w → k < t.params → number_in w ≡ None
    none k (Some (Number v)) is lt = let least = (a.each k (Number v) is).0 in absurd (omega (arith, least, lt))
    none k (Some Nothing) is lt = refl
    none k (Some Values) is lt = refl
    none k None is lt = refl

-- ---- slots

slot_within : (homes : List Home) (t s : ℕ) → slice_get homes t ≡ Some (Slot s) → s < slot_count homes
unfolding slot_count
slot_within [] t s e = absurd cc
slot_within (h ∷ hs) zero s e =
    let same : h ≡ Slot s = cc in
    let is : slots_to h ≡ s + 1 = ap slots_to same in
    omega (arith, is)
slot_within (h ∷ hs) (suc t) s e = let r = slot_within hs t s e in omega (arith, r)

slot_reached : (homes : List Home) (frame : Frame) (slot : ℕ) → IsFor homes frame → slot < slot_count homes
    → slots_at homes frame + 16 * slot < reach
slot_reached homes frame slot f lt =
    let s = f.saved in
    let i = f.inside in
    let m = f.small in
    omega (arith, s, i, m, lt)

-- ---- lists of temps

in_first : (xs ys : List ℕ) (k : ℕ) → temps.IsIn k xs → temps.IsIn k (xs ++ ys)
in_first [] ys k (n, e) = absurd cc
in_first (x ∷ xs) ys k (zero, e) = (0, e)
in_first (x ∷ xs) ys k (suc n, e) = let r = in_first xs ys k (n, e) in (suc r.0, r.1)

in_second : (xs ys : List ℕ) (k : ℕ) → temps.IsIn k ys → temps.IsIn k (xs ++ ys)
in_second [] ys k h = h
in_second (x ∷ xs) ys k h = let r = in_second xs ys k h in (suc r.0, r.1)

-- ---- each instruction

module _ (f : Function) (t : TacFun) (is : IsSelectable (table_of f.entries) t f.places.now.homes f.frame.now)
    (framed : IsFor f.places.now.homes f.frame.now) (a : AreWritten t f.written.now) where
  reached : AreReached (chosen f)
  reached = record {
    registers = λ k r h. let u = is.usable k r h.home in (omega (arith, u), omega (arith, u));
    slots = λ k at h.
        let same : f.frame.now ≡ h.frame = let e = h.is in cc in
        let near = slot_reached f.places.now.homes f.frame.now h.slot framed
        (slot_within f.places.now.homes k h.slot h.home) in
        let there = h.there ∙ ap (λ x. slots_at f.places.now.homes x + 16 * h.slot) (sym same) in
        omega (arith, near, there);
  }

  chooses : (k : ℕ) → k < t.temps → Chooses f k
  chooses k lt = record { reached = reached; homed = let e = is.one_each in omega (arith, e, lt) }

  some_chosen : (to : Option ℕ) → ((k : ℕ) → temps.IsIn k (in_option to) → k < t.temps) → ChoosesSome f to
  some_chosen None below = tt
  some_chosen (Some k) below = chooses k (below k (0, refl))

  first_chosen : (args : List ℕ) → ((k : ℕ) → temps.IsIn k args → k < t.temps) → ChoosesFirst f args
  first_chosen [] below = tt
  first_chosen (k ∷ ks) below = chooses k (below k (0, refl))

  amount_chosen : (by : Amount) → ((k : ℕ) → temps.IsIn k (temps.in_amount by) → k < t.temps) → ChoosesAmount f by
  amount_chosen (amount.Temp k) below = chooses k (below k (0, refl))
  amount_chosen (amount.Number n) below = tt

  -- the arguments of a call
  arguments_chosen : (args : List ℕ) → length args ≤ 4194304 → ((k : ℕ) → temps.IsIn k args → k < t.temps)
      → ChoosesArguments f args
  arguments_chosen args few below = record { few = few; each = λ n k e. chooses k (below k (n, e)) }

  heap_reached : (op : LibOp) (to : Option ℕ) (args : List ℕ)
      → IsFormed (table_of f.entries) f.frame.now (instr.Lib op to args) → ReachesHeap f op args
  heap_reached lib.Malloc to [] h = absurd (omega (arith, h.0))
  heap_reached lib.Malloc to (k ∷ ks) h = h.1
  heap_reached op to args h = tt

  -- what no constant writes is no number
  module _ (i : TacInstr) (among : Contains t.code i) where
    below : (k : ℕ) → temps.IsIn k (names i) → k < t.temps
    below = is.named i among

    writing : (to : ℕ) → temps.IsIn to (writes i) → ((k : TacKind) (v : ℕ) → i ≡ instr.Const to k v → ⊥)
        → temps.IsIn to (names i) → suiting.Writes f to
    writing to wrote other named = record {
      chooses = chooses to (below to named);
      stands = none (number_in (slice_get f.written.now to)) refl;
    }
      where
        none : (n : Option ℕ) → number_in (slice_get f.written.now to) ≡ n → Stands (chosen f) to
        none None e = e
        none (Some n) e =
            let c = (numbered t f.written.now a).constants i among to n wrote e in
            absurd (other c.0 n c.1)

  pub suits : (i : TacInstr) → Contains t.code i → Suits f i
  suits i among = by i among (is.formed i among)
    where
      by : (i : TacInstr) → Contains t.code i → IsFormed (table_of f.entries) f.frame.now i → Suits f i
      by (instr.Const to k v) c h = (
        chooses to (below (instr.Const to k v) c to (0, refl)),
        λ n e. let w = (numbered t f.written.now a).constants (instr.Const to k v) c to n (0, refl) e in (cc w.1),
      )
      by (instr.Copy to from) c h =
          let i = instr.Copy to from in
          (writing i c to (0, refl) (λ k v e. absurd cc) (0, refl), chooses from (below i c from (1, refl)))
      by (instr.Int op k to x y) c h =
          let i = instr.Int op k to x y in (
            writing i c to (0, refl) (λ k v e. absurd cc) (0, refl),
            chooses x (below i c x (1, refl)),
            chooses y (below i c y (2, refl)),
            h,
          )
      by (instr.Cmp op k to x y) c h =
          let i = instr.Cmp op k to x y in (
            writing i c to (0, refl) (λ k v e. absurd cc) (0, refl),
            chooses x (below i c x (1, refl)),
            chooses y (below i c y (2, refl)),
          )
      by (instr.Convert to from old new) c h =
          let i = instr.Convert to from old new in
          (writing i c to (0, refl) (λ k v e. absurd cc) (0, refl), chooses from (below i c from (1, refl)))
      by (instr.Cap op to x y) c h =
          let i = instr.Cap op to x y in (
            writing i c to (0, refl) (λ k v e. absurd cc) (0, refl),
            chooses x (below i c x (1, refl)),
            some_chosen y (λ k e. below i c k (suc (suc e.0), e.1)),
          )
      by (instr.Offset to base amount) c h =
          let i = instr.Offset to base amount in (
            writing i c to (0, refl) (λ k v e. absurd cc) (0, refl),
            chooses base (below i c base (1, refl)),
            amount_chosen amount (λ k e. below i c k (suc (suc e.0), e.1)),
          )
      by (instr.Narrow to base len exact) c h =
          let i = instr.Narrow to base len exact in (
            writing i c to (0, refl) (λ k v e. absurd cc) (0, refl),
            chooses base (below i c base (1, refl)),
            amount_chosen len (λ k e. below i c k (suc (suc e.0), e.1)),
          )
      by (instr.Load to from k pos) c h =
          let i = instr.Load to from k pos in
          (writing i c to (0, refl) (λ k v e. absurd cc) (0, refl), chooses from (below i c from (1, refl)))
      by (instr.Store at v k pos) c h =
          let i = instr.Store at v k pos in
          (chooses at (below i c at (0, refl)), chooses v (below i c v (1, refl)))
      by (instr.Local to var) c h =
          (writing (instr.Local to var) c to (0, refl) (λ k v e. absurd cc) (0, refl), h)
      by (instr.Global to number literal) c h =
          (writing (instr.Global to number literal) c to (0, refl) (λ k v e. absurd cc) (0, refl), h)
      by (instr.Function to fun) c h =
          (writing (instr.Function to fun) c to (0, refl) (λ k v e. absurd cc) (0, refl), h)
      by (instr.Zero var) c h = h
      by (instr.CopyUnits from to bytes unit from_pos to_pos) c h =
          let i = instr.CopyUnits from to bytes unit from_pos to_pos in (
            chooses from (below i c from (0, refl)),
            chooses to (below i c to (1, refl)),
            h.0,
            h.1,
          )
      by (instr.Label l) c h = tt
      by (instr.Jump l) c h = tt
      by (instr.Branch on when l) c h = chooses on (below (instr.Branch on when l) c on (0, refl))
      by (instr.Call to fun args) c h =
          let i = instr.Call to fun args in (
            some_chosen to (λ k e. below i c k (in_first (in_option to) args k e)),
            arguments_chosen args h.0 (λ k e. below i c k (in_second (in_option to) args k e)),
            h.1,
          )
      by (instr.CallValue to v of args pos) c h =
          let i = instr.CallValue to v of args pos in (
            some_chosen to (λ k e. below i c k (in_first (in_option to) (v ∷ args) k e)),
            chooses v (below i c v (in_second (in_option to) (v ∷ args) v (0, refl))),
            arguments_chosen args h (λ k e. below i c k (in_second (in_option to) (v ∷ args) k (suc e.0, e.1))),
          )
      by (instr.Lib op to args) c h =
          let i = instr.Lib op to args in (
            heap_reached op to args h,
            first_chosen args (λ k e. below i c k (in_second (in_option to) args k e)),
            some_chosen to (λ k e. below i c k (in_first (in_option to) args k e)),
          )
      by instr.Turn c h = tt
      by (instr.Return v) c h = some_chosen v (below (instr.Return v) c)

  -- ---- parameters

  pub takes : t.params ≤ 4194304 → TakesParameters f t.params
  takes few = record {
    few = few;
    each = λ k lt. record {
      chooses = let e = is.params in chooses k (omega (arith, e, lt));
      stands = (numbered t f.written.now a).parameters k lt;
      passed = λ r h. is.passed k r lt h.home;
    };
    apart = λ j k r lt le h i. same j k (λ d. is.apart j k lt le d (h.home ∙ sym i.home));
  }
    where
      same : (j k : ℕ) → ((j ≡ k → ⊥) → ⊥) → j ≡ k
      same j k h = ⊎_elim (λ (e : j ≡ k). e)
          (λ (d : (j < k) ⊎ (k < j)). absurd (h (λ e. ⊎_elim (λ (l : j < k). omega (arith, l, e))
          (λ (l : k < j). omega (arith, l, e)) d)))
          (cases_order j k)
