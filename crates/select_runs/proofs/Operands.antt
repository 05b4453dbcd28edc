-- Where the words of an operand stand, its register has the capability of the temp's value.
use Rattle.std.proofs.Common.{◌≡◌, ℕ, ◌+◌, ◌-◌, ◌*◌, ◌%◌, ◌^◌, ◌<◌, ◌≤◌, ℤ, pos, Bool, true, false, List, [], ◌∷◌}
use Rattle.std.proofs.Common.{length, Some, refl, sym, ap, ◌∙◌, subst, arith, if◌then◌else◌}
use Rattle.std.specs.Prelude.{nat_lt, slice_get}
use Rattle.cap_ops.specs.declared.capability.Cap.{Cap}
use Rattle.rv_instr.specs.Range.{InRange}
use Rattle.rv_instr.specs.declared.instr.Instr.{Instr}
use Rattle.rv_instr.specs.declared.instr.Instr.TheVariants.{Upper, Clc, CapReg}
use Rattle.rv_instr.specs.declared.ops.UpperOp.TheVariants.{Lui}
use Rattle.rv_instr.specs.declared.ops.CapRegOp.TheVariants.{Cincoffset}
use Rattle.cap_machine.specs.declared.machine.Machine.{Machine}
use Rattle.cap_machine.specs.State.{register}
use Rattle.cap_machine.specs.Rows.{row, plus}
use Rattle.obj_mem.specs.Objects.{base_in}
use Rattle.obj_mem.specs.Pointers.{keeps}
use Rattle.obj_mem.specs.Table.{addresses_of}
use Rattle.obj_mem.specs.Values.{capability_of}
use Rattle.cheri_c_sem.specs.Modes.{Store}
use Rattle.cheri_c_sem.specs.Steps.{State}
use Rattle.purecap_abi.specs.Saving.{slot_count, slots_at}
use Rattle.purecap_abi.specs.Words.{low, high, load_code}
use Rattle.purecap_abi.proofs.Counts.{slot_count_each}
use Rattle.tac_ir.specs.Effects.{temp_in}
use Rattle.place_inject.specs.Frames.{Setting, Point, IsLive, homes_of, slots_from, stack_top, stack_pointer}
use Rattle.place_inject.specs.Fits.{Fits, registers_in}
use Rattle.place_inject.proofs.ReadBack.{newest, under, slots_read_back_law}
use Rattle.place_inject.proofs.Reaching.{stack_reaches_law}
use Rattle.place_inject.proofs.Results.{registers_read_back_law, numbers_read_back_law}
use Rattle.select_words.specs.Standing.{HasAt}
use Rattle.select_words.specs.Emitted.{IsSpilled, Operand, Nothing, Made, AtHome, Loaded}
use Rattle.select_runs.specs.Acts.{Ground, IsThere, Holds}
use Rattle.select_runs.specs.Operands.{ground_of, IsText, IsAtPoint, OperandsCome}
use Rattle.select_runs.proofs.Acts.{begins, still, one_set, after}
use Rattle.select_runs.proofs.Far.{far, far_low, near_low, Reach, near as far_near}
use Rattle.select_runs.proofs.Numbers.{numbers_are_made_law}
use Rattle.select_runs.proofs.Points.{laid, there}
use Rattle.select_runs.specs.Selecting.{selecting}

-- ---- slots

-- where a place in the frame lies
pub record Lies (s : Setting) (p : Point) (t : State Store) (offset : ℕ) : Type 0 where
  pub from : s.map.stack.0 ≤ t.frame
  pub to : t.frame + offset ≤ stack_top s
  pub small : offset < 2 ^ 31 - 2048
  pub top : stack_top s ≤ 2 ^ 40

pub slot_lies : (s : Setting) (code : List Instr) (x : IsText s code) (p : Point) (t : State Store) (m : Machine)
    → Fits s (Some p) t m → (temp offset : ℕ) → IsSpilled (selecting s p.running.fun) temp offset → Lies s p t offset
slot_lies s code x p t m f temp offset spilled =
    let homes = homes_of s p.running.fun in
    let calls = f.calls in
    let own = newest s t.mem.memory.shapes m.mem (registers_in m) p.running.fun t.first t.frame p.running.callers
    calls.2 in
    let fr = own.frame in
    let lies = under s t.mem.memory.shapes m.mem p.running.fun t.first t.frame own.above own.link fr in
    let same : fr.frame ≡ spilled.frame =
    Rattle.std.proofs.lemmas.Option.same_Some fr.frame spilled.frame (sym fr.is ∙ spilled.is) in
    let place : slots_at homes spilled.frame ≡ slots_at homes fr.frame = ap (slots_at homes) (sym same) in
    let l : spilled.slot < slot_count homes = slot_count_each homes temp spilled.slot spilled.home in
    let saved = fr.for_homes.saved in
    let inside = fr.for_homes.inside in
    let size = fr.for_homes.small in
    let low_is = lies.from in
    let high_is = lies.to in
    let top_is = own.inside in
    let there_is = spilled.there in
    record {
      from = low_is;
      to = omega arith;
      small = omega arith;
      top = x.legal.in_range.2.2.2.1;
    }

-- The words of a load from a slot, in a machine that has the point's memory and stack
module _ (s : Setting) (code : List Instr) (x : IsText s code) (p : Point) (t : State Store) (m : Machine)
    (f : Fits s (Some p) t m) (temp scratch offset : ℕ) (above : 2 < scratch) (below : scratch < 32)
    (spilled : IsSpilled (selecting s p.running.fun) temp offset) where
  abbrev pub g : Ground
  g = ground_of s code

  abbrev pub value : Cap
  value = capability_of (addresses_of s.map) (base_in t.mem.memory.shapes) (temp_in t temp)

  lies : Lies s p t offset
  lies = slot_lies s code x p t m f temp offset spilled

  abbrev pub home_place : ℕ
  home_place = slots_from (slice_get s.map.frames p.running.fun) (homes_of s p.running.fun) t.frame + 16 * spilled.slot

  pub place_is : t.frame + offset ≡ home_place
  place_is =
      let e : slots_from (slice_get s.map.frames p.running.fun) (homes_of s p.running.fun) t.frame
      ≡ t.frame + slots_at (homes_of s p.running.fun) spilled.frame =
      ap (λ o. slots_from o (homes_of s p.running.fun) t.frame) spilled.is in
      let there_is = spilled.there in
      omega (arith, e, there_is)

  pub frame_kept : keeps s.map.stack.0 (stack_top s) t.frame ≡ true
  frame_kept = let l = lies.from in let h = lies.to in stack_reaches_law s x.legal t.frame l (omega arith)

  pub far_kept : keeps s.map.stack.0 (stack_top s) (t.frame + far offset) ≡ true
  far_kept =
      let l = lies.to in let top_is = lies.top in let from = lies.from in let small = lies.small in
      stack_reaches_law s x.legal (t.frame + far offset) (omega arith) (omega arith)

  -- a load from the slot through an address near it
  load_word : (live : IsLive s p temp) (n : Machine) (from mid y : ℕ) (z : ℤ) → IsThere g n mid → n.mem ≡ m.mem
      → slice_get code mid ≡ Some (Clc scratch from z)
      → register n from ≡ stack_pointer s y → keeps s.map.stack.0 (stack_top s) y ≡ true → plus y z ≡ home_place
      → Holds g n 1 (mid + 1) scratch scratch value
  unfolding row
  load_word live n from mid y z h mem has is keep sum =
      one_set g (laid s code x) n mid h (Clc scratch from z) scratch value has refl (omega arith) below
      (slots_read_back_law s x.legal p t m f temp spilled.slot live spilled.stands spilled.home n mem scratch from y z
      is keep sum)

  short : (live : IsLive s p temp) (n : Machine) (at : ℕ) → IsThere g n at → n.mem ≡ m.mem → register n 2 ≡ register m 2
      → HasAt code at (Clc scratch 2 (pos offset) ∷ []) → Holds g n 1 (at + 1) scratch scratch value
  short live n at h mem stack has =
      let l = lies.to in let top_is = lies.top in
      load_word live n 2 at t.frame (pos offset) h mem has.0 (stack ∙ f.stack.stack) frame_kept
      (near_low t.frame offset (omega arith) ∙ place_is)

  pub reach : Reach s.map.stack.0 (stack_top s) t.frame offset
  reach =
      let l = lies.to in let top_is = lies.top in
      record { small = lies.small; below = omega arith; here = frame_kept; near = far_kept }

  -- the two words that come near the slot
  pub near : (n : Machine) (at : ℕ) → IsThere g n at → register n 2 ≡ register m 2
      → slice_get code at ≡ Some (Upper Lui scratch (high offset % 2 ^ 20))
      → slice_get code (at + 1) ≡ Some (CapReg Cincoffset scratch 2 scratch)
      → Holds g n 2 (at + 1 + 1) scratch scratch (stack_pointer s (t.frame + far offset))
  near n at h stack first second =
      far_near g (laid s code x) s.map.stack.0 (stack_top s) t.frame offset 2 scratch reach (λ e. absurd (omega
      (arith, e, above)))
      (omega (arith, above)) below n at h (stack ∙ f.stack.stack) first second

  long : (live : IsLive s p temp) (n : Machine) (at : ℕ) → IsThere g n at → n.mem ≡ m.mem → register n 2 ≡ register m 2
      → HasAt code at (Upper Lui scratch (high offset % 2 ^ 20) ∷ CapReg Cincoffset scratch 2 scratch ∷ Clc scratch
      scratch (low offset) ∷ [])
      → Holds g n 3 (at + 3) scratch scratch value
  unfolding InRange
  long live n at h mem stack has =
      let l = lies.to in let top_is = lies.top in
      let a = near n at h stack has.0 has.1.0 in
      let range = x.in_range (at + 1 + 1) (Clc scratch scratch (low offset)) has.1.1.0 in
      let there_too = still g (laid s code x) n (at + 1 + 1) at scratch scratch 2 (stack_pointer s
      (t.frame + far offset)) h a in
      let c = load_word live a.to scratch (at + 1 + 1) (t.frame + far offset) (low offset) there_too (a.memory
      ∙ mem) has.1.1.0 a.holds
      far_kept (far_low t.frame offset (omega arith) range.2 ∙ place_is) in
      let e : at + 1 + 1 + 1 ≡ at + 3 = omega arith in
      subst (λ k. Holds g n 3 k scratch scratch value) e
      (after g (laid s code x) n at (at + 1 + 1) (at + 1 + 1 + 1) scratch scratch scratch 2 1
      (stack_pointer s (t.frame + far offset)) value a c)

  pub load_slot : IsLive s p temp → (n : Machine) (at : ℕ) → IsThere g n at → n.mem ≡ m.mem
      → register n 2 ≡ register m 2
      → (words : List Instr) → words ≡ load_code scratch 2 offset scratch → HasAt code at words
      → Holds g n (length words) (at + length words) scratch scratch value
  load_slot live n at h mem stack words is has = by (nat_lt offset 2048) words is has
    where
      by : (b : Bool) (ws : List Instr)
          → ws ≡ (if b then Clc scratch 2 (pos offset) ∷ []
          else Upper Lui scratch (high offset % 2 ^ 20) ∷ CapReg Cincoffset scratch 2 scratch ∷ Clc scratch scratch
          (low offset) ∷ [])
          → HasAt code at ws → Holds g n (length ws) (at + length ws) scratch scratch value
      by true ws e q =
          subst (λ v. Holds g n (length v) (at + length v) scratch scratch value) (sym e)
          (short live n at h mem stack (subst (HasAt code at) e q))
      by false ws e q =
          subst (λ v. Holds g n (length v) (at + length v) scratch scratch value) (sym e)
          (long live n at h mem stack (subst (HasAt code at) e q))

-- ---- all operands

module _ (s : Setting) (code : List Instr) (x : IsText s code) (p : Point) (at : ℕ) (t : State Store) (m : Machine)
    (point : IsAtPoint s code p at t m) (temp scratch r : ℕ) (live : IsLive s p temp) (above : 28 ≤ scratch)
    (below : scratch < 32) (words : List Instr) (has : HasAt code at words) where
  abbrev here : Ground
  here = ground_of s code

  abbrev own : Cap
  own = capability_of (addresses_of s.map) (base_in t.mem.memory.shapes) (temp_in t temp)

  -- a register that has it already
  already : (q : ℕ) → r ≡ q → words ≡ [] → register m q ≡ own → Holds here m (length words)
      (at + length words) scratch r own
  already q e none is =
      let stand : at ≡ at + 0 = omega arith in
      subst (λ v. Holds here m (length v) (at + length v) scratch r own) (sym none)
      (subst (λ k. Holds here m 0 k scratch r own) stand
      (subst (Holds here m 0 at scratch r) (ap (register m) e ∙ is)
      (begins here (laid s code x) m at scratch r (there s code x p at t m point))))

  pub holds_by : Operand (selecting s p.running.fun) temp scratch words r → Holds here m (length words)
      (at + length words) scratch r own
  holds_by (Nothing n none e) = already 0 e none (sym (numbers_read_back_law s p t m point.fits temp 0 live n).0)
  holds_by (AtHome i none) = already r refl none (registers_read_back_law s p t m point.fits temp r live i.stands
      i.home).0
  holds_by (Made v n makes few e) =
      subst (λ q. Holds here m (length words) (at + length words) scratch q own) (sym e)
      (subst (Holds here m (length words) (at + length words) scratch scratch)
      (sym (numbers_read_back_law s p t m point.fits temp v live n).0)
      (numbers_are_made_law here (laid s code x) m at (there s code x p at t m point) scratch v
      (omega arith) below words makes has))
  holds_by (Loaded offset spilled is e) =
      subst (λ q. Holds here m (length words) (at + length words) scratch q own) (sym e)
      (load_slot s code x p t m point.fits temp scratch offset (omega arith) below spilled live m at
      (there s code x p at t m point) refl refl words is has)

pub operands_come_law : OperandsCome
operands_come_law s code x p at t m point temp scratch r live above below words operand has = record {
  known = point.fits.calls.1.known temp live;
  holds = holds_by s code x p at t m point temp scratch r live above below words has operand;
}
