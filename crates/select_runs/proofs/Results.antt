-- A value that was computed in the register for it comes into its temp.
use Rattle.std.proofs.Common.{◌≡◌, ◌≢◌, ℕ, zero, suc, ◌+◌, ◌*◌, ◌%◌, ◌^◌, ◌<◌, ◌≤◌, inl, inr, pos, Bool, true, false}
use Rattle.std.proofs.Common.{List, [], ◌∷◌, length, Some, refl, sym, ap, ◌∙◌, subst, arith, if◌then◌else◌}
use Rattle.std.specs.Prelude.{nat_lt, slice_get, slice_set}
use Rattle.std.proofs.lemmas.Option.{same_Some, none-some, slice_get_within}
use Rattle.ck_base.specs.Runs.{Goes}
use Rattle.cap_ops.specs.declared.capability.Cap.{Cap}
use Rattle.rv_instr.specs.Range.{InRange}
use Rattle.rv_instr.specs.declared.instr.Instr.{Instr}
use Rattle.rv_instr.specs.declared.instr.Instr.TheVariants.{Upper, Store, CapReg, CapGet}
use Rattle.rv_instr.specs.declared.ops.UpperOp.TheVariants.{Lui}
use Rattle.rv_instr.specs.declared.ops.StoreOp.TheVariants.{Csc}
use Rattle.rv_instr.specs.declared.ops.CapRegOp.TheVariants.{Cincoffset}
use Rattle.rv_instr.specs.declared.ops.CapGetOp.TheVariants.{Cmove}
use Rattle.cap_machine.specs.declared.machine.Machine.{Machine}
use Rattle.cap_machine.specs.State.{register, next}
use Rattle.cap_machine.specs.Rows.{row, cap_get_row, store_row, plus}
use Rattle.cap_machine.specs.Step.{act, act_of}
use Rattle.obj_mem.specs.Objects.{base_in}
use Rattle.obj_mem.specs.Table.{addresses_of}
use Rattle.obj_mem.specs.Values.{Value, capability_of}
use Rattle.cheri_c_sem.specs.Modes as modes
use Rattle.cheri_c_sem.specs.Steps.{State}
use Rattle.reg_alloc.specs.declared.places.Home.{Home}
use Rattle.reg_alloc.specs.declared.places.Home.TheVariants.{Register, Slot}
use Rattle.purecap_abi.specs.Words.{low, high, store_code}
use Rattle.tac_ir.specs.Temps.{writes, falls, onward as further, IsIn as IsAmong}
use Rattle.tac_ir.specs.Meaning.{Running}
use Rattle.tac_ir.specs.declared.code.TacInstr.{TacInstr}
use Rattle.place_inject.specs.Values.{IsKnown}
use Rattle.place_inject.specs.Frames.{Setting, Point, IsLive, functions_of, homes_of, slots_from, stack_pointer}
use Rattle.place_inject.specs.Frames.{stack_top}
use Rattle.place_inject.specs.Fits.{Fits}
use Rattle.place_inject.specs.Homes.{onward, ReadsNoMore}
use Rattle.place_inject.specs.Spills.{StackIsThere}
use Rattle.place_inject.proofs.Results.{results_fit_law}
use Rattle.place_inject.proofs.Spilling.{spills_fit_law}
use Rattle.place_inject.proofs.StoresKeep.{scratch_keeps_law}
use Rattle.select_words.specs.Standing.{HasAt}
use Rattle.select_words.specs.Emitted.{IsSpilled, Keep}
use Rattle.select_words.specs.Emitted as emitted
use Rattle.select_runs.specs.Acts.{Ground, IsThere, Holds, Leads, counter_at}
use Rattle.select_runs.specs.Operands.{ground_of, IsText, IsAtPoint}
use Rattle.select_runs.specs.Results.{Computed, MayChange, MayTake, Arrives, ResultsGoHome, before, behind}
use Rattle.select_runs.proofs.Acts.{one_set, still, join, fetched_here, next_is}
use Rattle.select_runs.proofs.Points.{laid, text_there}
use Rattle.select_runs.proofs.Far.{far, near_low, far_low}
use Rattle.select_runs.proofs.Operands.{slot_lies, frame_kept, far_kept, place_is, near}
use Rattle.select_runs.specs.Selecting.{selecting}

-- ---- what is read from the next instruction on

only_one : (k to : ℕ) → (k ≡ to → ⊥) → IsAmong k (to ∷ []) → ⊥
only_one k to ne (zero, e) = ne (sym (same_Some to k e))
only_one k to ne (suc j, e) = none-some k e

none_among : (k : ℕ) → IsAmong k [] → ⊥
none_among k h = none-some k h.1

-- an instruction that writes one temp
pub reads_no_more : (s : Setting) (running : Running) (i : TacInstr) (rest : List TacInstr) (temp : ℕ) → falls i ≡ true
    → writes i ≡ temp ∷ [] → ReadsNoMore s (before running i rest) rest temp
reads_no_more s running i rest temp goes wrote other live ne =
    further goes (λ h. only_one other temp ne (subst (IsAmong other) wrote h)) live

-- one that writes none
pub reads_as_before : (s : Setting) (running : Running) (i : TacInstr) (rest : List TacInstr) → falls i ≡ true
    → writes i ≡ []
    → (temp : ℕ) → IsLive s (behind running rest) temp → IsLive s (before running i rest) temp
reads_as_before s running i rest goes wrote temp live =
    further goes (λ h. none_among temp (subst (IsAmong temp) wrote h)) live

-- ---- the result

module _ (s : Setting) (code : List Instr) (x : IsText s code) (stack : StackIsThere s) (p : Point) (at : ℕ)
    (t : State modes.Store) (m : Machine) (point : IsAtPoint s code p at t m) (rest : List TacInstr) (temp : ℕ)
    (take : MayTake s (onward p rest) temp) (reads_less : ReadsNoMore s p rest temp) (v : Value)
    (known : IsKnown t.mem.memory.shapes (functions_of s) v) (count mid changed r : ℕ) (unway : r ≢ 31)
    (h : Computed s code m count mid changed r (capability_of (addresses_of s.map)
    (base_in t.mem.memory.shapes) v)) where
  abbrev g : Ground
  g = ground_of s code

  abbrev value : Cap
  value = capability_of (addresses_of s.map) (base_in t.mem.memory.shapes) v

  abbrev new : State modes.Store
  new = record t { vars = slice_set t.vars temp (Some v) }

  abbrev Home_is : (n most end : ℕ) → Type 0
  Home_is n most end = Arrives s code (onward p rest) n most end new m

  -- the machine that was reached is in the code
  there_now : IsThere g h.to mid
  there_now = record {
    counter = h.counter;
    registers = h.registers;
    text = subst (Rattle.select_runs.specs.Acts.HasText g) (sym h.memory) (text_there s code x (Some p) t m point.fits);
  }

  -- the same home
  one_home : (i j : ℕ) → emitted.IsIn (selecting s p.running.fun) temp i →
      emitted.IsIn (selecting s p.running.fun) temp j → i ≡ j
  one_home i j a b =
      let e : Register i ≡ Register j = same_Some (Register i) (Register j) (sym a.home ∙ b.home) in
      number_of_register e
    where
      number_in : Home → ℕ
      number_in (Register k) = k
      number_in (Slot k) = 0

      number_of_register : Register i ≡ Register j → i ≡ j
      number_of_register e = ap number_in e

  -- registers but the temp's own home are as they were
  others : (home : ℕ) → emitted.IsIn (selecting s p.running.fun) temp home → MayChange s p.running.fun temp changed
      → (q : ℕ) → q < 28 → (q ≡ home → ⊥) → register h.to q ≡ register m q
  others home i (inl scratch) q l d = h.others q l (λ e. absurd (omega (arith, e, l, scratch)))
  others home i (inr j) q l d = h.others q l (λ e. d (e ∙ one_home changed home j i))

  -- it was computed in its home
  stays : emitted.IsIn (selecting s p.running.fun) temp r → MayChange s p.running.fun temp changed →
      Home_is count (count + 0)
      (mid + 0)
  stays i may =
      let e : mid ≡ mid + 0 = omega arith in
      record {
        count = count;
        to = h.to;
        ge = omega arith;
        le = omega arith;
        leads = h.leads;
        point = record {
          fits = results_fit_law s x.usable p t m point.fits rest temp r
              (take.register r i.home) reads_less v known h.to
              (record { registers = h.registers; memory = h.memory; result = h.holds; others = others r i may });
          counter = h.counter ∙ ap (counter_at g) e;
        };
      }

  -- it is moved there
  moves : (home : ℕ) → emitted.IsIn (selecting s p.running.fun) temp home → MayChange s p.running.fun temp changed
      → HasAt code mid (CapGet Cmove home r ∷ []) → Home_is count (count + 1) (mid + 1)
  unfolding row cap_get_row
  moves home i may has =
      let free = take.register home i.home in
      let low_is = free.usable.0 in
      let high_is = free.usable.1 in
      let k = one_set g (laid s code x) h.to mid there_now (CapGet Cmove home r) home value has.0 refl (omega arith)
      (omega arith)
      (ap (λ c. (Rattle.cap_machine.specs.Rows.set h.to home c)) h.holds) in
      record {
        count = count + 1;
        to = k.to;
        ge = omega arith;
        le = omega arith;
        leads = join count 1 m h.to k.to h.leads k.leads;
        point = record {
          fits = results_fit_law s x.usable p t m point.fits rest temp home free reads_less v known k.to
              (record {
                registers = k.registers;
                memory = k.memory ∙ h.memory;
                result = k.holds;
                others = λ q l d. k.others q d ∙ others home i may q l d;
              });
          counter = k.counter;
        };
      }

  -- ---- it is stored in its slot

  module _ (scratch : 28 ≤ changed) (offset : ℕ) (spilled : IsSpilled (selecting s p.running.fun) temp offset) where
    -- the machine that was reached still stands for the old state
    fits_still : (n : Machine) → length n.regs ≡ 32 → n.mem ≡ m.mem → ((q : ℕ) → q < 28 → register n q ≡ register m q)
        → Fits s (Some p) t n
    fits_still n long mem alike = scratch_keeps_law s x.usable (Some p) t m point.fits n long mem alike

    store_word : (n : Machine) (base end y : ℕ) (z : Rattle.std.specs.Prelude.ℤ) → IsThere g n end → (f : Fits s
        (Some p) t n)
        → slice_get code end ≡ Some (Store Csc r base z) → register n r ≡ value → register n base ≡ stack_pointer s y
        → Rattle.obj_mem.specs.Pointers.keeps s.map.stack.0 (stack_top s) y ≡ true
        → plus y z ≡ slots_from (slice_get s.map.frames p.running.fun)
        (homes_of s p.running.fun) t.frame + 16 * spilled.slot
        → (k : ℕ) → Leads k m n → Home_is k (k + 1) (end + 1)
    unfolding row
    store_word n base end y z here f has is stack_is keep sum k leads =
        let w = spills_fit_law s x.legal stack p t n f rest temp spilled.slot
        (take.slot spilled.slot spilled.home) reads_less v known
        r base y z is stack_is keep sum in
        let within = slice_get_within code end (Store Csc r base z) has in
        let after_it : Machine = next (record n { mem = w.memory }) in
        let counter_is = next_is g (laid s code x) (record n { mem = w.memory }) end here.counter within in
        let goes : act n ≡ Goes after_it =
        fetched_here g (laid s code x) n end (Store Csc r base z) here.counter here.text has ∙ ap act_of w.goes in
        record {
          count = k + 1;
          to = after_it;
          ge = omega arith;
          le = omega arith;
          leads = join k 1 m n after_it leads (after_it, goes, refl);
          point = record { fits = w.fits; counter = ap (λ (u : Machine). u.pc) counter_is };
        }

    near_store : HasAt code mid (Store Csc r 2 (pos offset) ∷ []) → Home_is count (count + 1) (mid + 1)
    near_store has =
        let lies = slot_lies s code x p t m point.fits temp offset spilled in
        let l = lies.to in let top_is = lies.top in
        let f = fits_still h.to h.registers h.memory (λ q b. h.others q b (λ e. absurd (omega
        (arith, e, b, scratch)))) in
        store_word h.to 2 mid t.frame (pos offset) there_now f has.0 h.holds f.stack.stack
        (frame_kept s code x p t m point.fits temp 31 offset (omega arith) (omega arith) spilled)
        (near_low t.frame offset (omega arith) ∙ place_is s code x p t m point.fits temp 31 offset (omega arith)
        (omega arith) spilled)
        count h.leads

    far_store : HasAt code mid (Upper Lui 31 (high offset % 2 ^ 20) ∷ CapReg Cincoffset 31 2 31 ∷ Store Csc r 31
        (low offset) ∷ [])
        → Home_is count (count + 3) (mid + 3)
    unfolding InRange
    far_store has =
        let lies = slot_lies s code x p t m point.fits temp offset spilled in
        let l = lies.to in let top_is = lies.top in
        let a = near s code x p t m point.fits temp 31 offset (omega arith) (omega arith) spilled h.to mid there_now
        (h.others 2 (omega arith) (λ e. absurd (omega (arith, e, scratch)))) has.0 has.1.0 in
        let f = fits_still a.to a.registers (a.memory ∙ h.memory) (λ q b. a.others q (λ e. absurd (omega (arith, e, b)))
        ∙ h.others q b (λ e. absurd (omega (arith, e, b, scratch)))) in
        let range = x.in_range (mid + 1 + 1) (Store Csc r 31 (low offset)) has.1.1.0 in
        let here = still g (laid s code x) h.to (mid + 1 + 1) mid 31 31 2 (stack_pointer s
        (t.frame + far offset)) there_now a in
        let k = store_word a.to 31 (mid + 1 + 1) (t.frame + far offset) (low offset) here f has.1.1.0
        (a.others r unway ∙ h.holds) a.holds
        (far_kept s code x p t m point.fits temp 31 offset (omega arith) (omega arith) spilled)
        (far_low t.frame offset (omega arith) range.2
        ∙ place_is s code x p t m point.fits temp 31 offset (omega arith) (omega arith) spilled)
        (count + 2) (join count 2 m h.to a.to h.leads a.leads) in
        let kc = k.ge in let kd = k.le in
        let e : mid + 1 + 1 + 1 ≡ mid + 3 = omega arith in
        record {
          count = k.count;
          to = k.to;
          ge = omega arith;
          le = omega arith;
          leads = k.leads;
          point = record { fits = k.point.fits; counter = k.point.counter ∙ ap (counter_at g) e };
        }

    stores : (words : List Instr) → words ≡ store_code r 2 offset 31 → HasAt code mid words
        → Home_is count (count + length words) (mid + length words)
    stores words is has = by (nat_lt offset 2048) words is has
      where
        by : (b : Bool) (ws : List Instr)
            → ws ≡ (if b then Store Csc r 2 (pos offset) ∷ []
            else Upper Lui 31 (high offset % 2 ^ 20) ∷ CapReg Cincoffset 31 2 31 ∷ Store Csc r 31 (low offset) ∷ [])
            → HasAt code mid ws → Home_is count (count + length ws) (mid + length ws)
        by true ws e q = subst (λ u. Home_is count (count + length u) (mid + length u)) (sym e) (near_store (subst
            (HasAt code mid) e q))
        by false ws e q = subst (λ u. Home_is count (count + length u) (mid + length u)) (sym e) (far_store (subst
            (HasAt code mid) e q))

  -- ---- all ways

  none_words : (words : List Instr) → words ≡ [] → Home_is count (count + 0) (mid + 0)
      → Home_is count (count + length words) (mid + length words)
  none_words words e k = subst (λ u. Home_is count (count + length u) (mid + length u)) (sym e) k

  -- a temp that stands in a slot has no register of its own
  no_register : (offset home : ℕ) → IsSpilled (selecting s p.running.fun) temp offset →
      emitted.IsIn (selecting s p.running.fun) temp home → ⊥
  no_register offset home i j = slot_or_register (same_Some (Slot i.slot) (Register home) (sym i.home ∙ j.home))
    where
      slot_or_register : Slot i.slot ≡ Register home → ⊥
      slot_or_register e = absurd cc

  scratch_is : (offset : ℕ) → IsSpilled (selecting s p.running.fun) temp offset → MayChange s p.running.fun temp changed
      → 28 ≤ changed
  scratch_is offset i (inl l) = l
  scratch_is offset i (inr j) = absurd (no_register offset changed i j)

  pub goes_home : MayChange s p.running.fun temp changed → (words : List Instr) →
      Keep (selecting s p.running.fun) temp r words
      → HasAt code mid words → Home_is count (count + length words) (mid + length words)
  goes_home may words (emitted.Needless n is e) has = absurd (none-some n (sym take.stands ∙ is))
  goes_home may words (emitted.Stays i e) has = none_words words e (stays i may)
  goes_home may words (emitted.Moved home i d e) has =
      subst (λ u. Home_is count (count + length u) (mid + length u)) (sym e) (moves home i may (subst
      (HasAt code mid) e has))
  goes_home may words (emitted.Stored offset i e) has = stores (scratch_is offset i may) offset i words e has

pub results_go_home_law : ResultsGoHome
results_go_home_law s code x stack p at t m point rest temp take reads_less v known count mid changed r may unway h
    words keep has =
    goes_home s code x stack p at t m point rest temp take reads_less v known count mid changed r unway h may words
    keep has

-- the register in which a temp is computed
pub target_may : (s : Setting) (code : List Instr) → IsText s code → (fun temp r : ℕ) →
    emitted.Target (selecting s fun) temp r
    → MayChange s fun temp r × (r ≢ 31)
target_may s code x fun temp r (emitted.Own i) =
    let l : r < 28 = x.usable fun temp r i.home in (inr i, λ e. absurd (omega (arith, e, l)))
target_may s code x fun temp r (emitted.Number n is e) = (inl (omega (arith, e)), λ q. absurd (omega (arith, e, q)))
target_may s code x fun temp r (emitted.Spilled offset i e) = (
  inl (omega (arith, e)),
  λ q. absurd (omega
      (arith, e, q)),
)
