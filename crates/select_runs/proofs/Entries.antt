-- Parameters come to their homes: some are stored in slots, some are moved among registers, and the rest come from the
-- caller's frame.
use Rattle.std.proofs.Common.{◌≡◌, ℕ, zero, suc, ◌+◌, ◌-◌, ◌*◌, ◌/◌, ◌%◌, ◌^◌, ◌<◌, ◌≤◌, ◌==◌, ◌⊎◌, List, ◌++◌, length}
use Rattle.std.proofs.Common.{refl, sym, ap, ◌∙◌, subst, arith, Option, Some, None, inl, inr, if◌then◌else◌}
use Rattle.std.specs.Prelude.{min, position, slice_get}
use Rattle.std.specs.Option.{option_map}
use Rattle.std.proofs.lemmas.Bool.{cases_eq, cases_lt}
use Rattle.std.proofs.lemmas.Option.{same_Some, cond_some}
use Rattle.cap_ops.specs.declared.capability.Cap.{Cap}
use Rattle.rv_instr.specs.declared.instr.Instr.{Instr}
use Rattle.tag_mem.specs.Areas.{IsMemory}
use Rattle.cap_machine.specs.declared.machine.Machine.{Machine}
use Rattle.cap_machine.specs.State.{register}
use Rattle.cheri_c_sem.specs.Modes.{frame_within}
use Rattle.obj_mem.specs.declared.map.Frame.{Frame}
use Rattle.reg_alloc.specs.declared.places.Home.{Home}
use Rattle.reg_alloc.specs.declared.places.Home.TheVariants.{Register, Slot}
use Rattle.reg_alloc.specs.Placed.{IsKept}
use Rattle.purecap_abi.specs.Ends.{prologue_code}
use Rattle.purecap_abi.specs.Saving.{IsFor, kept_homes, keeps_stack, stack_bytes, slot_count, registers_at}
use Rattle.purecap_abi.specs.Saving.{behind_registers, stack_at, slots_at}
use Rattle.purecap_abi.specs.Words.{load_code, store_code}
use Rattle.purecap_abi.proofs.Counts.{slot_count_each}
use Rattle.place_inject.specs.Objects.{SameOutside}
use Rattle.place_inject.specs.Parts.{kept_at}
use Rattle.place_inject.specs.Frames.{Setting, homes_of, at_home, stack_top, stack_pointer, return_sentry, from_place}
use Rattle.place_inject.specs.Frames.{kept_place, behind_return}
use Rattle.place_inject.specs.Fits.{registers_in}
use Rattle.place_inject.specs.Spills.{StackIsThere}
use Rattle.place_inject.proofs.FramesKept.{stack_multiple, position_within}
use Rattle.place_inject.proofs.Growing.{power_sixteen}
use Rattle.place_inject.proofs.Locals.{multiple_sixteen}
use Rattle.place_inject.proofs.Lying.{Lies, within}
use Rattle.place_inject.proofs.Results.{saved}
use Rattle.select_words.specs.Standing.{HasAt}
use Rattle.select_words.specs.Emitted.{IsIn, IsSpilled}
use Rattle.select_words.specs.Entries as entries
use Rattle.select_words.specs.Entries.{moved_from, stack_place, ForEach, SlotWords, StackWords, MayGet, ParameterWords}
use Rattle.select_runs.specs.Acts.{Ground, IsThere}
use Rattle.select_runs.specs.Entries.{AreParameters, ArePassed, HasParameters, ParametersCome}
use Rattle.select_runs.specs.Operands.{ground_of, IsText}
use Rattle.select_runs.specs.Prologue.{IsEntered, TakesFrame, FrameIsTaken}
use Rattle.select_runs.proofs.Acts.{has_front, has_back}
use Rattle.select_runs.proofs.Epilogue.{kept_range}
use Rattle.select_runs.proofs.Keeping.{same_here, same_twice, same_wider, kept_still}
use Rattle.select_runs.proofs.Moves.{Moved, moves_run, not_moved, loads_far}
use Rattle.select_runs.proofs.Points.{laid}
use Rattle.select_runs.proofs.Prologue.{prologues_run_law}
use Rattle.select_runs.proofs.Saving.{Stores, Ready, stores_far}
use Rattle.select_runs.proofs.Stretches.{Reached, reached, reached_as, reached_both, reached_nowhere}
use Rattle.select_runs.specs.Selecting.{selecting}

-- the slot of a home is one
abbrev slot_in : Home → ℕ
slot_in (Register r) = 0
slot_in (Slot k) = k

abbrev register_in : Home → ℕ
register_in (Register r) = r
register_in (Slot k) = 0

no_slot : (r k : ℕ) → Register r ≡ Slot k → ⊥
no_slot r k e = absurd cc

module _ (s : Setting) (code : List Instr) (x : IsText s code) (stack : StackIsThere s) (fun : ℕ) (f : Frame)
    (is : slice_get s.map.frames fun ≡ Some f) (fits : IsFor (homes_of s fun) f) (above link at : ℕ) (m : Machine)
    (e : IsEntered s code above link at m) (count : ℕ) (c : ℕ → Cap) (params : AreParameters s fun count)
    (passed : ArePassed s above count c m) (at' : ℕ)
    (room : frame_within s.map.stack.0 above (Some f) ≡ Some at') where
  abbrev g : Ground
  g = ground_of s code

  abbrev homes : List Home
  homes = homes_of s fun

  abbrev ra : ℕ
  ra = registers_at homes f

  lies : Lies s.map.stack.0 above at' f
  lies = within s.map.stack.0 above at' f room

  even : at' % 16 ≡ 0
  even =
      let power = fits.power in let least = fits.least in let p = power.1 in
      let align : f.align % 16 ≡ 0 = ap (λ n. n % 16) p ∙ power_sixteen power.0 (omega arith) in
      ap (λ n. n % 16) (sym lies.is) ∙ multiple_sixteen ((above - f.size) / f.align) f.align align

  -- where the saved part lies
  record Numbers : Type 0 where
    low : s.map.stack.0 ≤ at'
    up : at' + f.saved ≤ stack_top s
    above_saved : at' + f.saved ≤ above
    ra_from : 16 ≤ ra
    ra_even : ra % 16 ≡ 0
    kept_to : behind_registers homes f + stack_bytes f.align ≡ slots_at homes f
    slots_to : slots_at homes f + 16 * slot_count homes ≤ f.saved
    slots_even : slots_at homes f % 16 ≡ 0
    small : f.saved < 2 ^ 31 - 2048

  numbers : Numbers
  numbers =
      let l = lies.from in let h = lies.to in let t = e.to in
      let saved_is = fits.saved in let inside = fits.inside in let small_is = fits.small in
      let bytes = stack_multiple f.align in
      record {
        low = l;
        up = omega arith;
        above_saved = omega arith;
        ra_from = omega arith;
        ra_even = omega arith;
        kept_to = refl;
        slots_to = omega arith;
        slots_even = omega arith;
        small = omega arith;
      }

  -- ---- homes

  abbrev Is_home : ℕ → Type 0
  Is_home r = (k : ℕ) × (k < count) × IsIn (selecting s fun) k r

  not_home : (r : ℕ) → (r < 5) ⊎ (27 < r) → Is_home r → ⊥
  not_home r (inl l) h = let u = params.usable h.0 r h.1 h.2 in let from = u.0 in absurd (omega (arith, l, from))
  not_home r (inr l) h = let u = params.usable h.0 r h.1 h.2 in let to = u.1 in absurd (omega (arith, l, to))

  slot_place : (k offset : ℕ) → (sp : IsSpilled (selecting s fun) k offset) → offset ≡ slots_at homes f + 16 * sp.slot
  slot_place k offset sp =
      sp.there ∙ ap (λ i. slots_at homes i + 16 * sp.slot) (same_Some sp.frame f (sym sp.is ∙ is))

  -- a slot lies in the saved part, behind the rest of it
  record Slot_lies (offset : ℕ) : Type 0 where
    past : slots_at homes f ≤ offset
    inside : offset + 16 ≤ f.saved
    whole : offset % 16 ≡ 0

  slot_lies : (k offset : ℕ) → IsSpilled (selecting s fun) k offset → Slot_lies offset
  slot_lies k offset sp =
      let place = slot_place k offset sp in
      let l : sp.slot < slot_count homes = slot_count_each homes k sp.slot sp.home in
      let n = numbers in let to = n.slots_to in let z = n.slots_even in
      record { past = omega arith; inside = omega arith; whole = omega arith }

  -- those of two parameters are apart
  slots_apart : (j k a b : ℕ) → j < count → k < count → (j ≡ k → ⊥) → IsSpilled (selecting s fun) j a →
      IsSpilled (selecting s fun) k b
      → (a ≡ b → ⊥)
  slots_apart j k a b lj lk d p q e =
      let pa = slot_place j a p in let qb = slot_place k b q in
      let same : p.slot ≡ q.slot = omega (arith, pa, qb, e) in
      params.apart j k lj lk d (p.home ∙ ap (λ i. Some (Slot i)) same ∙ sym q.home)

  one_slot : (k a b : ℕ) → IsSpilled (selecting s fun) k a → IsSpilled (selecting s fun) k b → a ≡ b
  one_slot k a b p q =
      let same : p.slot ≡ q.slot = ap slot_in (same_Some (Slot p.slot) (Slot q.slot) (sym p.home ∙ q.home)) in
      slot_place k a p ∙ ap (λ i. slots_at homes f + 16 * i) same ∙ sym (slot_place k b q)

  one_register : (k a b : ℕ) → IsIn (selecting s fun) k a → IsIn (selecting s fun) k b → a ≡ b
  one_register k a b p q = ap register_in (same_Some (Register a) (Register b) (sym p.home ∙ q.home))

  either : (k r offset : ℕ) → IsIn (selecting s fun) k r → IsSpilled (selecting s fun) k offset → ⊥
  either k r offset i sp = no_slot r sp.slot (same_Some (Register r) (Slot sp.slot) (sym i.home ∙ sp.home))

  -- ---- the frame stays

  -- what the prologue made
  record In_frame (n : Machine) : Type 0 where
    areas : IsMemory n.mem
    same : SameOutside at' f.saved m.mem n.mem
    stack_is : register n 2 ≡ stack_pointer s at'
    table : register n 3 ≡ register m 3
    caller : register n 28 ≡ stack_pointer s above
    link_kept : kept_at n.mem at' ≡ Some (return_sentry s link)
    stack_kept : (p : ℕ) → stack_at homes f ≡ Some p → kept_at n.mem (at' + p) ≡ Some (stack_pointer s above)
    kept : (r : ℕ) → IsKept r → behind_return s n.mem fun at' (registers_in n) r ≡ Some (register m r)

  -- memory is as it was but for the slots, and registers but for homes of parameters and c29 to c31
  record Goes_on (n to : Machine) : Type 0 where
    areas : IsMemory to.mem
    same : SameOutside at' f.saved n.mem to.mem
    below_slots : (p : ℕ) → p % 16 ≡ 0 → p + 16 ≤ slots_at homes f → kept_at to.mem (at' + p) ≡ kept_at n.mem (at' + p)
    registers : (r : ℕ) → r < 29 → (Is_home r → ⊥) → register to r ≡ register n r

  frame_on : (n to : Machine) → In_frame n → Goes_on n to → In_frame to
  frame_on n to b w = record {
    areas = w.areas;
    same = same_twice at' f.saved m.mem n.mem to.mem b.same w.same;
    stack_is = w.registers 2 (omega arith) (not_home 2 (inl (omega arith))) ∙ b.stack_is;
    table = w.registers 3 (omega arith) (not_home 3 (inl (omega arith))) ∙ b.table;
    caller = w.registers 28 (omega arith) (not_home 28 (inr (omega arith))) ∙ b.caller;
    link_kept =
        let z : at' ≡ at' + 0 = omega arith in let k = numbers in let from = k.ra_from in
        ap (kept_at to.mem) z ∙ w.below_slots 0 refl (omega arith) ∙ ap (kept_at n.mem) (sym z) ∙ b.link_kept;
    stack_kept = λ p q. stack_still p q ∙ b.stack_kept p q;
    kept = λ r k. place_is to r ∙ regs_still r k (position (λ z. z == r) (kept_homes homes)) refl ∙ sym (place_is n r)
        ∙ b.kept r k;
  }
    where
      stack_still : (p : ℕ) → stack_at homes f ≡ Some p → kept_at to.mem (at' + p) ≡ kept_at n.mem (at' + p)
      stack_still p q =
          let o = cond_some (keeps_stack f.align) (behind_registers homes f) p q in
          let great = o.0 in
          let bytes : stack_bytes f.align ≡ 16 = ap (λ i. if i then 16 else 0) great in
          let place = o.1 in let k = numbers in let z = k.ra_even in
          w.below_slots p (omega arith) (omega arith)

      place_is : (u : Machine) (r : ℕ) → behind_return s u.mem fun at' (registers_in u) r
          ≡ from_place u.mem (option_map (λ j. at' + ra + 16 * j) (position (λ z. z == r) (kept_homes homes)))
          (Some (register u r))
      place_is u r = ap (λ o. from_place u.mem (kept_place o homes at' r) (Some (register u r))) is

      regs_still : (r : ℕ) → IsKept r → (o : Option ℕ) → position (λ z. z == r) (kept_homes homes) ≡ o
          → from_place to.mem (option_map (λ j. at' + ra + 16 * j) o) (Some (register to r))
          ≡ from_place n.mem (option_map (λ j. at' + ra + 16 * j) o) (Some (register n r))
      regs_still r k None q =
          let range = kept_range r k in let to_is = range.1 in
          ap (λ i. Some i) (w.registers r (omega (arith, to_is)) (λ h. saved homes h.0 r h.2.home k q))
      regs_still r k (Some j) q =
          let l : j < length (kept_homes homes) = position_within (λ z. z == r) (kept_homes homes) j q in
          let z = numbers in let even_ra = z.ra_even in
          let place : at' + ra + 16 * j ≡ at' + (ra + 16 * j) = omega arith in
          ap (kept_at to.mem) place ∙ w.below_slots (ra + 16 * j) (omega arith) (omega arith)
          ∙ ap (kept_at n.mem) (sym place)

  -- a slot is stored
  slot_on : (n to : Machine) (k offset changed : ℕ) (v : Cap) → IsMemory n.mem → IsSpilled (selecting s fun) k offset →
      28 < changed
      → Stores (at' + offset) changed v n to → Goes_on n to
  slot_on n to k offset changed v areas sp scratch w =
      let y = slot_lies k offset sp in let past = y.past in let inside = y.inside in let whole = y.whole in
      record {
        areas = w.areas;
        same = same_wider at' f.saved (at' + offset) 16 n.mem to.mem (omega arith) (omega arith) w.same;
        below_slots = λ p z up.
            let z' = even in
            kept_still (at' + offset) 16 (at' + p) n.mem to.mem areas w.areas (omega arith) (omega arith)
            (inr (omega arith)) w.same;
        registers = λ r l d. w.registers r (λ q. absurd (omega (arith, q, l, scratch)));
      }

  -- registers alone change
  registers_on : (n to : Machine) → IsMemory n.mem → to.mem ≡ n.mem
      → ((r : ℕ) → r < 29 → (Is_home r → ⊥) → register to r ≡ register n r) → Goes_on n to
  registers_on n to areas mem alike = record {
    areas = subst IsMemory (sym mem) areas;
    same = subst (SameOutside at' f.saved n.mem) (sym mem) (same_here at' f.saved n.mem);
    below_slots = λ p z up. ap (λ v. kept_at v (at' + p)) mem;
    registers = alike;
  }

  -- ---- the first eight, to slots

  abbrev Slot_has : Machine → ℕ → Type 0
  Slot_has n k = (offset : ℕ) → IsSpilled (selecting s fun) k offset → kept_at n.mem (at' + offset) ≡ Some (c k)

  abbrev Register_has : Machine → ℕ → Type 0
  Register_has n k = (r : ℕ) → IsIn (selecting s fun) k r → register n r ≡ c k

  record Begun (k : ℕ) (n : Machine) : Type 0 where
    frame : In_frame n
    registers : (r : ℕ) → r < 28 → (r ≡ 2 → ⊥) → register n r ≡ register m r
    slots : (j : ℕ) → j < k → Slot_has n j

  ready : (n : Machine) (mid : ℕ) → IsThere g n mid → In_frame n → Ready s code n mid
  ready n mid there b = record {
    there = there;
    areas = b.areas;
    places = λ y. b.same.places y ∙ e.places y;
  }

  other_slot : (n to : Machine) (j k a offset changed : ℕ) (v : Cap) → IsMemory n.mem → j < count → k < count
      → (j ≡ k → ⊥) → IsSpilled (selecting s fun) j a → IsSpilled (selecting s fun) k offset →
      Stores (at' + offset) changed v n to
      → kept_at to.mem (at' + a) ≡ kept_at n.mem (at' + a)
  other_slot n to j k a offset changed v areas lj lk d p q w =
      let y = slot_lies k offset q in let whole = y.whole in
      let ya = slot_lies j a p in let whole_a = ya.whole in let z = even in
      kept_still (at' + offset) 16 (at' + a) n.mem to.mem areas w.areas (omega arith) (omega arith)
      (beside (cases_lt a offset)) w.same
    where
      beside : (a < offset) ⊎ (offset ≤ a) → Rattle.obj_mem.specs.Legal.Apart (at' + offset) 16 (at' + a) 16
      beside (inl l) =
          let y = slot_lies k offset q in let whole = y.whole in
          let ya = slot_lies j a p in let whole_a = ya.whole in inr (omega (arith, l, whole, whole_a))
      beside (inr l) =
          let y = slot_lies k offset q in let whole = y.whole in
          let ya = slot_lies j a p in let whole_a = ya.whole in
          let ne = slots_apart j k a offset lj lk d p q in inl (omega (arith, l, ne, whole, whole_a))

  one_stored : (k : ℕ) → k < min count 8 → (n : Machine) (mid : ℕ) → IsThere g n mid → Begun k n → (ws : List Instr)
      → SlotWords (selecting s fun) k ws → HasAt code mid ws → Reached g n (length ws) (mid + length ws) (Begun (k + 1))
  one_stored k l n mid there b ws (entries.Later r i none) has =
      subst (λ y. Reached g n (length y) (mid + length y) (Begun (k + 1))) (sym none)
      (reached_nowhere g n mid (Begun (k + 1)) there (record {
        frame = b.frame;
        registers = b.registers;
        slots = λ j lj. by j lj (cases_eq j k);
      }))
    where
      by : (j : ℕ) → j < k + 1 → ((j ≡ k) ⊎ (j ≡ k → ⊥)) → Slot_has n j
      by j lj (inl same) offset sp =
          absurd (either k r offset i (subst (λ y. IsSpilled (selecting s fun) y offset) same sp))
      by j lj (inr d) offset sp = b.slots j (omega (arith, lj, d)) offset sp
  one_stored k l n mid there b ws (entries.Stored offset sp words) has =
      let y = slot_lies k offset sp in let past = y.past in let inside = y.inside in let whole = y.whole in
      let z = even in let u = numbers in let low = u.low in let up = u.up in let small = u.small in
      let value : register n (10 + k) ≡ c k = b.registers (10 + k) (omega arith) (λ q. absurd (omega (arith, q)))
      ∙ passed.registers k (omega arith) (omega arith) in
      subst (λ v. Reached g n (length v) (mid + length v) (Begun (k + 1))) (sym words)
      (reached_as g n (length (store_code (10 + k) 2 offset 29)) (mid + length (store_code (10 + k) 2 offset 29))
      (Stores (at' + offset) 29 (register n (10 + k)) n) (Begun (k + 1))
      (stores_far s code x stack at' low (omega arith) n mid (ready n mid there b.frame) b.frame.stack_is
      (10 + k) offset 29
      (λ q. absurd (omega (arith, q, l))) (omega arith) (omega arith) (omega arith) (omega arith) (omega arith)
      (subst (λ (v : Cap). v.fields.address < 2 ^ 64) (sym value) (passed.words k (omega arith)))
      (subst (HasAt code mid) words has))
      (λ to w. record {
        frame = frame_on n to b.frame (slot_on n to k offset 29 (register n (10 + k)) b.frame.areas sp (omega arith) w);
        registers = λ r lr d. w.registers r (λ q. absurd (omega (arith, q, lr))) ∙ b.registers r lr d;
        slots = λ j lj. stored_by to w value j lj (cases_eq j k);
      }))
    where
      stored_by : (to : Machine) → Stores (at' + offset) 29 (register n (10 + k)) n to → register n (10 + k) ≡ c k →
          (j : ℕ)
          → j < k + 1 → ((j ≡ k) ⊎ (j ≡ k → ⊥)) → Slot_has to j
      stored_by to w value j lj (inl same) a p =
          let place = one_slot k a offset (subst (λ y. IsSpilled (selecting s fun) y a) same p) sp in
          ap (λ y. kept_at to.mem (at' + y)) place ∙ w.kept ∙ ap (λ v. Some v) (value ∙ ap c (sym same))
      stored_by to w value j lj (inr d) a p =
          other_slot n to j k a offset 29 (register n (10 + k)) b.frame.areas (omega (arith, lj, l))
          (omega (arith, l)) d p
          sp w ∙ b.slots j (omega (arith, lj, d)) a p

  all_stored : (cnt k : ℕ) → k + cnt ≡ min count 8 → (n : Machine) (mid : ℕ) → IsThere g n mid → Begun k n
      → (ws : List Instr) → ForEach (SlotWords (selecting s fun)) k cnt ws → HasAt code mid ws
      → Reached g n (length ws) (mid + length ws) (Begun (min count 8))
  all_stored zero k sum n mid there b ws none has =
      let all : k ≡ min count 8 = omega arith in
      subst (λ y. Reached g n (length y) (mid + length y) (Begun (min count 8))) (sym none)
      (reached_nowhere g n mid (Begun (min count 8)) there (subst (λ i. Begun i n) all b))
  all_stored (suc cnt) k sum n mid there b ws form has =
      let q = subst (HasAt code mid) form.4 has in
      subst (λ y. Reached g n (length y) (mid + length y) (Begun (min count 8))) (sym form.4)
      (reached_both g n mid form.0 form.1 (Begun (k + 1)) (Begun (min count 8))
      (one_stored k (omega arith) n mid there b form.0 form.2 (has_front code mid form.0 form.1 q))
      (λ a there' b'. all_stored cnt (k + 1) (omega arith) a (mid + length form.0) there' b' form.1 form.3
      (has_back code mid form.0 form.1 q)))

  -- ---- the moves, and those past eight

  record Come (k : ℕ) (n : Machine) : Type 0 where
    frame : In_frame n
    slots : (j : ℕ) → j < k → j < count → Slot_has n j
    registers : (j : ℕ) → j < k → j < count → Register_has n j

  usable_target : (r : ℕ) → MayGet (selecting s fun) count r → (0 < r) × (r < 32)
  usable_target r (inl q) = (omega (arith, q), omega (arith, q))
  usable_target r (inr h) =
      let less_count = h.1 in
      let u = params.usable h.0 r (omega (arith, less_count)) h.2 in let from = u.0 in let to = u.1 in
      (omega (arith, from), omega (arith, to))

  moved : (ws : List Instr) → entries.AreMovesTo (MayGet (selecting s fun) count) ws
      → ((k r : ℕ) → k < min count 8 → IsIn (selecting s fun) k r → moved_from ws r ≡ 10 + k) → (n : Machine) (mid : ℕ)
      → IsThere g n mid → Begun (min count 8) n → HasAt code mid ws
      → Reached g n (length ws) (mid + length ws) (Come 8)
  moved ws own made n mid there b has =
      reached g n mid (length ws) (mid + length ws) there
      (Moved g (laid s code x) (MayGet (selecting s fun) count) usable_target ws n) (Come 8)
      (moves_run g (laid s code x) (MayGet (selecting s fun) count) usable_target ws own n mid there has)
      (λ to mem w. record {
        frame = frame_on n to b.frame (registers_on n to b.frame.areas mem
            (λ r l d. w r ∙ ap (register n) (not_moved g (laid s code x)
            (MayGet (selecting s fun) count) usable_target ws own r
            (λ h. target_home r l d h))));
        slots = λ j l lc offset sp. ap (λ v. kept_at v (at' + offset)) mem ∙ b.slots j (omega arith) offset sp;
        registers = λ j l lc r i.
            w r ∙ ap (register n) (made j r (omega arith) i)
            ∙ b.registers (10 + j) (omega arith) (λ q. absurd (omega (arith, q))) ∙ passed.registers j lc l;
      })
    where
      target_home : (r : ℕ) → r < 29 → (Is_home r → ⊥) → MayGet (selecting s fun) count r → ⊥
      target_home r l d (inl q) = absurd (omega (arith, l, q))
      target_home r l d (inr h) = let lc = h.1 in d (h.0, omega (arith, lc), h.2)

  -- what the caller stored
  stands : (k : ℕ) → k < count → 8 ≤ k → (n : Machine) → In_frame n
      → kept_at n.mem (above + stack_place k) ≡ Some (c k)
  stands k l far n b =
      let u = numbers in let up = u.above_saved in let z = even in let za = e.aligned in
      kept_still at' f.saved (above + stack_place k) m.mem n.mem e.areas b.areas z (omega arith)
      (inl (omega arith)) b.same
      ∙ passed.stack k l far

  -- to a register
  one_register_come : (k r : ℕ) → k < count → 8 ≤ k → IsIn (selecting s fun) k r → (n : Machine) (mid : ℕ) →
      IsThere g n mid
      → Come k n → HasAt code mid (load_code r 28 (stack_place k) 29)
      → Reached g n (length (load_code r 28 (stack_place k) 29)) (mid + length (load_code r 28 (stack_place k) 29))
      (Come (k + 1))
  one_register_come k r l far i n mid there b has =
      let u = params.usable k r l i in let r_from = u.0 in let r_to = u.1 in let za = e.aligned in
      let place = passed.room (omega arith) in let from = e.from in let top_is = x.legal.in_range.2.2.2.1 in
      reached g n mid (length (load_code r 28 (stack_place k) 29))
      (mid + length (load_code r 28 (stack_place k) 29)) there
      (λ to. (register to r ≡ c k) × ((q : ℕ) → (q ≡ r → ⊥) → (q ≡ 29 → ⊥) → register to q ≡ register n q))
      (Come (k + 1))
      (loads_far s code x stack n mid there (λ y. b.frame.same.places y ∙ e.places y) 28 above r (stack_place k) 29
      (c k)
      b.frame.caller from (omega arith) (omega arith) (few_stack) (stands k l far n b.frame) (omega arith)
      (omega arith) (omega arith) (omega arith) (λ q. absurd (omega (arith, q))) has)
      (λ to mem w. record {
        frame = frame_on n to b.frame (registers_on n to b.frame.areas mem
            (λ q lq d. w.1 q (λ same. d (k, l, subst (IsIn (selecting s fun) k) (sym same) i))
            (λ z. absurd (omega (arith, z, lq)))));
        slots = λ j lj lc. slots_by to mem j lj lc (cases_eq j k);
        registers = λ j lj lc. registers_by to w.0 w.1 j lj lc (cases_eq j k);
      })
    where
      few_stack : stack_place k < 2 ^ 31 - 2048
      few_stack =
          let place = passed.room (omega arith) in let top_is = x.legal.stack_most in let from = e.from in omega arith

      slots_by : (to : Machine) → to.mem ≡ n.mem → (j : ℕ) → j < k + 1 → j < count → ((j ≡ k) ⊎ (j ≡ k → ⊥))
          → Slot_has to j
      slots_by to mem j lj lc (inl same) offset sp =
          absurd (either k r offset i (subst (λ y. IsSpilled (selecting s fun) y offset) same sp))
      slots_by to mem j lj lc (inr d) offset sp =
          ap (λ v. kept_at v (at' + offset)) mem ∙ b.slots j (omega (arith, lj, d)) lc offset sp

      registers_by : (to : Machine) → register to r ≡ c k
          → ((q : ℕ) → (q ≡ r → ⊥) → (q ≡ 29 → ⊥) → register to q ≡ register n q) → (j : ℕ) → j < k + 1 → j < count
          → ((j ≡ k) ⊎ (j ≡ k → ⊥)) → Register_has to j
      registers_by to got others j lj lc (inl same) q ij =
          ap (register to) (one_register k q r (subst (λ y. IsIn (selecting s fun) y q) same ij) i) ∙ got
          ∙ ap c (sym same)
      registers_by to got others j lj lc (inr d) q ij =
          let uq = params.usable j q lc ij in let q_to = uq.1 in
          others q (λ same. params.apart j k lc l d (ij.home ∙ ap (λ y. Some (Register y)) same ∙ sym i.home))
          (λ z. absurd (omega (arith, z, q_to))) ∙ b.registers j (omega (arith, lj, d)) lc q ij

  -- to a slot, by c30
  one_slot_come : (k offset : ℕ) → k < count → 8 ≤ k → IsSpilled (selecting s fun) k offset → (n : Machine) (mid : ℕ)
      → IsThere g n mid → Come k n
      → HasAt code mid (load_code 30 28 (stack_place k) 29 ++ store_code 30 2 offset 31)
      → Reached g n (length (load_code 30 28 (stack_place k) 29 ++ store_code 30 2 offset 31))
      (mid + length (load_code 30 28 (stack_place k) 29 ++ store_code 30 2 offset 31)) (Come (k + 1))
  one_slot_come k offset l far sp n mid there b has =
      let za = e.aligned in let place = passed.room (omega arith) in let from = e.from in
      let top_is = x.legal.in_range.2.2.2.1 in
      reached_both g n mid (load_code 30 28 (stack_place k) 29) (store_code 30 2 offset 31) Loaded_it (Come (k + 1))
      (reached g n mid (length (load_code 30 28 (stack_place k) 29)) (mid + length (load_code 30 28 (stack_place k) 29))
      there (λ to. (register to 30 ≡ c k) × ((q : ℕ) → (q ≡ 30 → ⊥) → (q ≡ 29 → ⊥) → register to q ≡ register n q))
      Loaded_it
      (loads_far s code x stack n mid there (λ y. b.frame.same.places y ∙ e.places y) 28 above 30 (stack_place k) 29
      (c k)
      b.frame.caller from (omega arith) (omega arith) few_stack (stands k l far n b.frame) (omega arith)
      (omega arith) (omega arith) (omega arith) (λ q. absurd (omega (arith, q)))
      (has_front code mid (load_code 30 28 (stack_place k) 29) (store_code 30 2 offset 31) has))
      (λ to mem w. (
        frame_on n to b.frame (registers_on n to b.frame.areas mem
            (λ q lq d. w.1 q (λ z. absurd (omega (arith, z, lq))) (λ z. absurd (omega (arith, z, lq))))),
        mem,
        w.0,
        w.1,
      )))
      (λ a there' h. stored a (mid + length (load_code 30 28 (stack_place k) 29)) there' h
      (has_back code mid (load_code 30 28 (stack_place k) 29) (store_code 30 2 offset 31) has))
    where
      few_stack : stack_place k < 2 ^ 31 - 2048
      few_stack =
          let place = passed.room (omega arith) in let top_is = x.legal.stack_most in let from = e.from in omega arith

      Loaded_it : Machine → Type 0
      Loaded_it to =
          In_frame to × (to.mem ≡ n.mem) × (register to 30 ≡ c k)
          × ((q : ℕ) → (q ≡ 30 → ⊥) → (q ≡ 29 → ⊥) → register to q ≡ register n q)

      slots_by : (a to : Machine) → Loaded_it a → Stores (at' + offset) 31 (register a 30) a to → (j : ℕ) → j < k + 1
          → j < count → ((j ≡ k) ⊎ (j ≡ k → ⊥)) → Slot_has to j
      slots_by a to h w j lj lc (inl same) o p =
          let place = one_slot k o offset (subst (λ y. IsSpilled (selecting s fun) y o) same p) sp in
          ap (λ y. kept_at to.mem (at' + y)) place ∙ w.kept ∙ ap (λ v. Some v) (h.2 ∙ ap c (sym same))
      slots_by a to h w j lj lc (inr d) o p =
          other_slot a to j k o offset 31 (register a 30) h.0.areas lc l d p sp w
          ∙ ap (λ v. kept_at v (at' + o)) h.1 ∙ b.slots j (omega (arith, lj, d)) lc o p

      registers_by : (a to : Machine) → Loaded_it a → Stores (at' + offset) 31 (register a 30) a to → (j : ℕ) →
          j < k + 1
          → j < count → ((j ≡ k) ⊎ (j ≡ k → ⊥)) → Register_has to j
      registers_by a to h w j lj lc (inl same) q ij =
          absurd (either k q offset (subst (λ y. IsIn (selecting s fun) y q) same ij) sp)
      registers_by a to h w j lj lc (inr d) q ij =
          let uq = params.usable j q lc ij in let q_to = uq.1 in
          w.registers q (λ z. absurd (omega (arith, z, q_to)))
          ∙ h.3 q (λ z. absurd (omega (arith, z, q_to))) (λ z. absurd (omega (arith, z, q_to)))
          ∙ b.registers j (omega (arith, lj, d)) lc q ij

      stored : (a : Machine) (from : ℕ) → IsThere g a from → Loaded_it a → HasAt code from (store_code 30 2 offset 31)
          → Reached g a (length (store_code 30 2 offset 31)) (from + length (store_code 30 2 offset 31)) (Come (k + 1))
      stored a from there' h words =
          let y = slot_lies k offset sp in let past = y.past in let inside = y.inside in let whole = y.whole in
          let z = even in let u = numbers in let low = u.low in let up = u.up in let small = u.small in
          reached_as g a (length (store_code 30 2 offset 31)) (from + length (store_code 30 2 offset 31))
          (Stores (at' + offset) 31 (register a 30) a) (Come (k + 1))
          (stores_far s code x stack at' low (omega arith) a from (ready a from there' h.0) h.0.stack_is 30 offset 31
          (λ q. absurd (omega (arith, q))) (omega arith) (omega arith) (omega arith) (omega arith) (omega arith)
          (subst (λ (v : Cap). v.fields.address < 2 ^ 64) (sym h.2) (passed.words k l)) words)
          (λ to w. record {
            frame = frame_on a to h.0 (slot_on a to k offset 31 (register a 30) h.0.areas sp (omega arith) w);
            slots = λ j lj lc. slots_by a to h w j lj lc (cases_eq j k);
            registers = λ j lj lc. registers_by a to h w j lj lc (cases_eq j k);
          })

  one_come : (k : ℕ) → k < count → 8 ≤ k → (n : Machine) (mid : ℕ) → IsThere g n mid → Come k n → (ws : List Instr)
      → StackWords (selecting s fun) k ws → HasAt code mid ws → Reached g n (length ws) (mid + length ws) (Come (k + 1))
  one_come k l far n mid there b ws (entries.Loaded r i words) has =
      subst (λ v. Reached g n (length v) (mid + length v) (Come (k + 1))) (sym words)
      (one_register_come k r l far i n mid there b (subst (HasAt code mid) words has))
  one_come k l far n mid there b ws (entries.Spilled offset sp words) has =
      subst (λ v. Reached g n (length v) (mid + length v) (Come (k + 1))) (sym words)
      (one_slot_come k offset l far sp n mid there b (subst (HasAt code mid) words has))

  all_come : (cnt k : ℕ) → 8 ≤ k → (0 < cnt → k + cnt ≡ count) → count ≤ k + cnt → (n : Machine) (mid : ℕ)
      → IsThere g n mid → Come k n → (ws : List Instr) → ForEach (StackWords (selecting s fun)) k cnt ws →
      HasAt code mid ws
      → Reached g n (length ws) (mid + length ws) (Come count)
  all_come zero k far sum end n mid there b ws none has =
      subst (λ y. Reached g n (length y) (mid + length y) (Come count)) (sym none)
      (reached_nowhere g n mid (Come count) there (record {
        frame = b.frame;
        slots = λ j l lc. b.slots j (omega arith) lc;
        registers = λ j l lc. b.registers j (omega arith) lc;
      }))
  all_come (suc cnt) k far sum end n mid there b ws form has =
      let q = subst (HasAt code mid) form.4 has in let total = sum (omega arith) in
      subst (λ y. Reached g n (length y) (mid + length y) (Come count)) (sym form.4)
      (reached_both g n mid form.0 form.1 (Come (k + 1)) (Come count)
      (one_come k (omega arith) far n mid there b form.0 form.2 (has_front code mid form.0 form.1 q))
      (λ a there' b'. all_come cnt (k + 1) (omega arith) (λ z. omega arith) (omega arith) a
      (mid + length form.0) there' b'
      form.1 form.3 (has_back code mid form.0 form.1 q)))

  -- ---- all of it

  module _ (words : List Instr) (form : ParameterWords (selecting s fun) count words)
      (has : HasAt code at (prologue_code homes f ++ words)) where
    taken : TakesFrame s code fun f above link (at + length (prologue_code homes f)) at' m
    taken = subst (FrameIsTaken s code fun f above link at m) room
        (prologues_run_law s code x stack fun f is fits above link at m e
        (has_front code at (prologue_code homes f) words has))

    begun : Begun 0 taken.after
    begun =
        let t = taken in
        record {
          frame = record {
            areas = t.entered.areas;
            same = t.entered.same;
            stack_is = t.entered.stack;
            table = t.entered.table;
            caller = t.caller;
            link_kept = t.entered.link_kept;
            stack_kept = t.entered.stack_kept;
            kept = t.entered.kept;
          };
          registers = t.others;
          slots = λ j l. absurd (omega (arith, l));
        }

    begins : Reached g m (length (prologue_code homes f)) (at + length (prologue_code homes f)) (Begun 0)
    begins = record { to = taken.after; leads = taken.leads; there = taken.there; has = begun }

    all : Reached g m (length (prologue_code homes f ++ (form.stores ++ (form.moves ++ form.loads))))
        (at + length (prologue_code homes f ++ (form.stores ++ (form.moves ++ form.loads)))) (Come count)
    all =
        let whole = subst (λ ws. HasAt code at (prologue_code homes f ++ ws)) form.are has in
        let h1 = has_back code at (prologue_code homes f) (form.stores ++ (form.moves ++ form.loads)) whole in
        reached_both g m at (prologue_code homes f) (form.stores ++ (form.moves ++ form.loads)) (Begun 0) (Come count)
        begins
        (λ a there_a ba.
        reached_both g a (at + length (prologue_code homes f)) form.stores (form.moves ++ form.loads)
        (Begun (min count 8)) (Come count)
        (all_stored (min count 8) 0 (omega arith) a
        (at + length (prologue_code homes f)) there_a ba form.stores form.stored
        (has_front code (at + length (prologue_code homes f)) form.stores (form.moves ++ form.loads) h1))
        (λ b there_b bb.
        let h2 = has_back code (at + length (prologue_code homes f)) form.stores (form.moves ++ form.loads) h1 in
        reached_both g b (at + length (prologue_code homes f) + length form.stores) form.moves form.loads (Come 8)
        (Come count)
        (moved form.moves form.own form.moved b (at + length (prologue_code homes f) + length form.stores) there_b bb
        (has_front code (at + length (prologue_code homes f) + length form.stores) form.moves form.loads h2))
        (λ d there_d bd.
        all_come (count - 8) 8 (omega arith) (λ z. omega (arith, z)) (omega arith) d
        (at + length (prologue_code homes f) + length form.stores + length form.moves) there_d bd form.loads form.loaded
        (has_back code (at + length (prologue_code homes f) + length form.stores) form.moves form.loads h2))))

    home_has : (n : Machine) → Come count n → (k : ℕ) (h : Home) → k < count → slice_get homes k ≡ Some h
        → at_home n.mem (registers_in n) (at' + slots_at homes f) h ≡ Some (c k)
    home_has n b k (Register r) l q =
        ap (λ v. Some v) (b.registers k l l r (record { stands = params.stand k l; home = q }))
    home_has n b k (Slot j) l q =
        let place : at' + slots_at homes f + 16 * j ≡ at' + (slots_at homes f + 16 * j) = omega arith in
        ap (kept_at n.mem) place ∙ b.slots k l l (slots_at homes f + 16 * j) (record {
          stands = params.stand k l;
          slot = j;
          home = q;
          frame = f;
          is = is;
          there = refl;
        })

    come : HasParameters s code fun count c f above link (at + length (prologue_code homes f ++ words)) at'
        (length (prologue_code homes f ++ words)) m
    come =
        let r = subst (λ ws. Reached g m (length (prologue_code homes f ++ ws))
        (at + length (prologue_code homes f ++ ws)) (Come count)) (sym form.are) all in
        record {
          acts = length (prologue_code homes f ++ words);
          few = omega arith;
          after = r.to;
          leads = r.leads;
          there = r.there;
          entered = record {
            registers = r.there.registers;
            areas = r.has.frame.areas;
            same = r.has.frame.same;
            stack = r.has.frame.stack_is;
            table = r.has.frame.table;
            link_kept = r.has.frame.link_kept;
            stack_kept = r.has.frame.stack_kept;
            kept = r.has.frame.kept;
          };
          homes = home_has r.to r.has;
        }

pub parameters_come_law : ParametersCome
parameters_come_law s code x stack fun f is fits above link at m e count c params passed words form has at' room =
    come s code x stack fun f is fits above link at m e count c params passed at' room words form has
