-- A function is entered: its frame is taken, and the link, the caller's stack and the kept registers are saved there;
-- or the store of the link traps.
use Rattle.std.proofs.Common.{◌≡◌, ℕ, ◌+◌, ◌-◌, ◌*◌, ◌/◌, ◌%◌, ◌^◌, ◌<◌, ◌≤◌, ◌==◌, ◌||◌, ◌⊎◌, pos, Bool, true, false}
use Rattle.std.proofs.Common.{List, [], ◌∷◌, ◌++◌, length, refl, sym, ap, ◌∙◌, subst, arith, Option, Some, None, inl}
use Rattle.std.proofs.Common.{inr, if◌then◌else◌}
use Rattle.std.specs.Prelude.{nat_lt, position, slice_get, Result, Ok, Err}
use Rattle.std.specs.Option.{option_map}
use Rattle.std.proofs.lemmas.Bool.{cases_eq, ltb-true, ltb-false}
use Rattle.std.proofs.lemmas.Option.{same_Some, none-some, cond_some}
use Rattle.ck_base.specs.Runs.{Ends}
use Rattle.cap_ops.specs.declared.access.Access.TheVariants as access
use Rattle.cap_ops.specs.declared.access.Cause.{Cause}
use Rattle.cap_ops.specs.declared.capability.Cap.{Cap}
use Rattle.cap_ops.specs.Access.{checked}
use Rattle.cap_ops.specs.Capability.{moved}
use Rattle.cap_ops.specs.Permissions.{data_permissions}
use Rattle.cap_ops.proofs.Inside.{moved_bounds}
use Rattle.cap_ops.proofs.Laws.{bounded_moved}
use Rattle.rv_instr.specs.declared.instr.Instr.{Instr}
use Rattle.rv_instr.specs.declared.ops.StoreOp.TheVariants.{Csc}
use Rattle.tag_mem.specs.Areas.{IsMemory}
use Rattle.cap_machine.proofs.Passed.{checked_passes}
use Rattle.cap_machine.specs.declared.end.End.TheVariants.{Trap}
use Rattle.cap_machine.specs.declared.machine.Machine.{Machine}
use Rattle.cap_machine.specs.State.{register}
use Rattle.cap_machine.specs.Rows.{row, plus, store_row, store_checked, memory_bits, trap}
use Rattle.cap_machine.specs.Step.{act_of}
use Rattle.cheri_c_sem.specs.Modes.{below, frame_within}
use Rattle.obj_mem.specs.declared.map.Frame.{Frame}
use Rattle.obj_mem.specs.Pointers.{keeps}
use Rattle.reg_alloc.specs.declared.places.Home.{Home}
use Rattle.reg_alloc.specs.Placed.{IsKept}
use Rattle.purecap_abi.specs.declared.taking.Way.TheVariants.{ToFrame}
use Rattle.purecap_abi.specs.Ends.{before_store, link_store, stack_code, keep_code, prologue_code}
use Rattle.purecap_abi.specs.Saving.{IsFor, kept_homes, keeps_stack, stack_bytes, registers_at, behind_registers}
use Rattle.purecap_abi.specs.Saving.{stack_at}
use Rattle.purecap_abi.specs.Words.{store_code}
use Rattle.purecap_abi.proofs.FrameLaws.{kept_most}
use Rattle.place_inject.specs.Objects.{SameOutside}
use Rattle.place_inject.specs.Parts.{kept_at}
use Rattle.place_inject.specs.Frames.{Setting, homes_of, stack_top, stack_pointer, return_sentry, from_place}
use Rattle.place_inject.specs.Frames.{kept_place, behind_return}
use Rattle.place_inject.specs.Fits.{registers_in}
use Rattle.place_inject.specs.Spills.{StackIsThere}
use Rattle.place_inject.proofs.FramesKept.{stack_multiple}
use Rattle.place_inject.proofs.Growing.{power_sixteen}
use Rattle.place_inject.proofs.Locals.{multiple_sixteen}
use Rattle.place_inject.proofs.Lying.{Lies, within}
use Rattle.place_inject.proofs.ReadBack.{address_of}
use Rattle.place_inject.proofs.Reaching.{kept_bounds, stack_reaches_law}
use Rattle.select_words.specs.Standing.{HasAt}
use Rattle.select_runs.specs.Acts.{Ground, IsThere}
use Rattle.select_runs.specs.Operands.{ground_of, IsText}
use Rattle.select_runs.specs.Prologue.{IsEntered, TakesFrame, Sinks, FrameIsTaken, ProloguesRun}
use Rattle.select_runs.proofs.Acts.{has_front, has_back, act_on_row, counter_place, fetched_here}
use Rattle.select_runs.proofs.Epilogue.{homes_rise, kept_range}
use Rattle.select_runs.proofs.Far.{near_low}
use Rattle.select_runs.proofs.Keeping.{Keeps, one_store, same_here, same_twice, same_wider, kept_still}
use Rattle.select_runs.proofs.Points.{laid}
use Rattle.select_runs.proofs.Saving.{Stores, Saved, Ready, stores_far, all_saves}
use Rattle.select_runs.proofs.Stretches.{Reached, reached, reached_as, reached_both, reached_nowhere}
use Rattle.select_runs.proofs.Taking.{Taken, down, less, rounded, takes_frame}

module _ (s : Setting) (code : List Instr) (x : IsText s code) (stack : StackIsThere s) (fun : ℕ) (f : Frame)
    (is : slice_get s.map.frames fun ≡ Some f) (fits : IsFor (homes_of s fun) f) (above link at : ℕ) (m : Machine)
    (e : IsEntered s code above link at m) (has : HasAt code at (prologue_code (homes_of s fun) f)) where
  abbrev g : Ground
  g = ground_of s code

  abbrev homes : List Home
  homes = homes_of s fun

  abbrev rs : List ℕ
  rs = kept_homes homes

  abbrev ra : ℕ
  ra = registers_at homes f

  top_most : stack_top s ≤ 2 ^ 40
  top_most = x.legal.in_range.2.2.2.1

  stack_keeps : (y : ℕ) → s.map.stack.0 ≤ y → y < stack_top s + 4096 → keeps s.map.stack.0 (stack_top s) y ≡ true
  stack_keeps y l h = stack_reaches_law s x.legal y l h

  above_most : above ≤ 2 ^ 40
  above_most = let a = e.to in let b = top_most in omega arith

  abbrev Taken_frame : Machine → Type 0
  Taken_frame = Taken s code x homes f fits above above_most e.aligned m

  abbrev begin_words : List Instr
  begin_words = before_store f

  abbrev link_words : List Instr
  link_words = link_store ∷ []

  abbrev stack_words : List Instr
  stack_words = stack_code (stack_at homes f)

  abbrev kept_words : List Instr
  kept_words = keep_code ToFrame ra rs

  abbrev to_stack : HasAt code at (begin_words ++ link_words ++ stack_words)
  to_stack = has_front code at (begin_words ++ link_words ++ stack_words) kept_words has

  abbrev to_link : HasAt code at (begin_words ++ link_words)
  to_link = has_front code at (begin_words ++ link_words) stack_words to_stack

  begun_words : HasAt code at begin_words
  begun_words = has_front code at begin_words link_words to_link

  link_here : slice_get code (at + length begin_words) ≡ Some link_store
  link_here = (has_back code at begin_words link_words to_link).0

  -- ---- there is room

  module _ (at' : ℕ) (room : frame_within s.map.stack.0 above (Some f) ≡ Some at') where
    lies : Lies s.map.stack.0 above at' f
    lies = within s.map.stack.0 above at' f room

    down_is : down above f ≡ at'
    down_is =
        let l = lies.to in let most = above_most in
        let exact : less above f.size ≡ above - f.size = omega arith in
        ap (λ n. n / f.align * f.align) exact ∙ lies.is

    even : at' % 16 ≡ 0
    even =
        let power = fits.power in let least = fits.least in let p = power.1 in
        let align : f.align % 16 ≡ 0 = ap (λ n. n % 16) p ∙ power_sixteen power.0 (omega arith) in
        ap (λ n. n % 16) (sym lies.is) ∙ multiple_sixteen ((above - f.size) / f.align) f.align align

    record Numbers : Type 0 where
      low : s.map.stack.0 ≤ at'
      up : at' + f.saved ≤ stack_top s
      ra_from : 16 ≤ ra
      ra_even : ra % 16 ≡ 0
      ra_small : ra + 16 * length rs ≤ f.saved
      stack_small : ra + 16 * length rs + stack_bytes f.align ≤ f.saved
      small : f.saved < 2 ^ 31 - 2048

    numbers : Numbers
    numbers =
        let l = lies.from in let h = lies.to in let t = e.to in
        let saved = fits.saved in let inside = fits.inside in let small_is = fits.small in
        record {
          low = l;
          up = omega arith;
          ra_from = omega arith;
          ra_even = omega (arith, stack_multiple f.align);
          ra_small = omega arith;
          stack_small = omega arith;
          small = omega arith;
        }

    moved_is : moved (stack_pointer s above) at' ≡ stack_pointer s at'
    moved_is =
        let n = numbers in let l = n.low in let u = n.up in let a = e.from in let b = e.to in
        let from = kept_bounds s.map.stack.0 (stack_top s) data_permissions above (stack_keeps above a (omega arith)) in
        let to = kept_bounds s.map.stack.0 (stack_top s) data_permissions at' (stack_keeps at' l (omega arith)) in
        bounded_moved s.map.stack.0 (stack_top s) data_permissions above at' from.0 from.1 to.0 to.1

    -- only the saved part of the frame changed, and c2 is the frame
    record Begun (n : Machine) : Type 0 where
      areas : IsMemory n.mem
      same : SameOutside at' f.saved m.mem n.mem
      stack_is : register n 2 ≡ stack_pointer s at'
      caller : register n 28 ≡ stack_pointer s above
      others : (r : ℕ) → r < 28 → (r ≡ 2 → ⊥) → register n r ≡ register m r

    begun : (n : Machine) → n.mem ≡ m.mem → Taken_frame n → Begun n
    begun n mem t = record {
      areas = subst IsMemory (sym mem) e.areas;
      same = subst (SameOutside at' f.saved m.mem) (sym mem) (same_here at' f.saved m.mem);
      stack_is = t.0 ∙ ap (moved (stack_pointer s above)) down_is ∙ moved_is;
      caller = t.1;
      others = t.2;
    }

    ready : (n : Machine) (mid : ℕ) → IsThere g n mid → Begun n
        → Ready s code n mid
    ready n mid there b = record {
      there = there;
      areas = b.areas;
      places = λ y. b.same.places y ∙ e.places y;
    }

    begun_on : (n to : Machine) (p long : ℕ) → Begun n → IsMemory to.mem → SameOutside p long n.mem to.mem → at' ≤ p
        → p + long ≤ at' + f.saved → ((r : ℕ) → (r ≡ 29 → ⊥) → register to r ≡ register n r) → Begun to
    begun_on n to p long b areas same from up alike = record {
      areas = areas;
      same = same_twice at' f.saved m.mem n.mem to.mem b.same (same_wider at' f.saved p long n.mem to.mem from up same);
      stack_is = alike 2 (λ q. absurd (omega (arith, q))) ∙ b.stack_is;
      caller = alike 28 (λ q. absurd (omega (arith, q))) ∙ b.caller;
      others = λ r l d. alike r (λ q. absurd (omega (arith, q, l))) ∙ b.others r l d;
    }

    abbrev Link_kept : Machine → Type 0
    Link_kept n = kept_at n.mem at' ≡ Some (return_sentry s link)

    abbrev Stack_kept : Machine → Type 0
    Stack_kept n = (p : ℕ) → stack_at homes f ≡ Some p → kept_at n.mem (at' + p) ≡ Some (stack_pointer s above)

    abbrev Linked : Machine → Type 0
    Linked n = Begun n × Link_kept n

    abbrev Backed : Machine → Type 0
    Backed n = Begun n × Link_kept n × Stack_kept n

    abbrev Regs_kept : Machine → Type 0
    Regs_kept n = (q j : ℕ) → IsKept q → position (λ z. z == q) rs ≡ Some j
        → kept_at n.mem (at' + ra + 16 * j) ≡ Some (register m q)

    abbrev All_kept : Machine → Type 0
    All_kept n = Begun n × Link_kept n × Stack_kept n × Regs_kept n

    -- ---- the link

    linked : Reached g m (length (begin_words ++ link_words)) (at + length (begin_words ++ link_words)) Linked
    linked =
        reached_both g m at begin_words link_words Begun Linked
        (reached g m at (length begin_words) (at + length begin_words) e.there Taken_frame Begun
        (takes_frame s code x homes f fits above above_most e.aligned m at e.there e.stack begun_words) begun)
        (λ n there b. stored n there b)
      where
        stored : (n : Machine) → IsThere g n (at + length begin_words) → Begun n
            → Reached g n 1 (at + length begin_words + 1) Linked
        stored n there b =
            let k = numbers in let l = k.low in let u = k.up in let from = k.ra_from in let r = k.ra_small in
            let link_is = b.others 1 (omega arith) (λ q. absurd (omega (arith, q))) in
            reached_as g n 1 (at + length begin_words + 1) (Keeps at' (register n 1) n) Linked
            (one_store s code x stack n (at + length begin_words) there b.areas
            (λ y. b.same.places y ∙ e.places y) 1 2 at'
            at' (pos 0) b.stack_is (stack_keeps at' l (omega arith))
            (let top_is = top_most in let z : at' + 0 ≡ at' = omega arith in near_low at' 0 (omega arith) ∙ z) even l
            (omega arith) (subst (λ (c : Cap). c.fields.address < 2 ^ 64) (sym link_is) (e.words 1)) link_here)
            (λ to w. (
              begun_on n to at' 16 b w.areas w.same (omega arith) (omega arith) (λ i d. w.registers i),
              w.kept ∙ ap (λ c. Some c) (link_is ∙ e.link_is),
            ))

    -- ---- the caller's stack

    stack_case : (b : Bool) → keeps_stack f.align ≡ b → (n : Machine) (mid : ℕ) → IsThere g n mid → Linked n
        → HasAt code mid (stack_code (if b then Some (behind_registers homes f) else None))
        → Reached g n (length (stack_code (if b then Some (behind_registers homes f) else None)))
        (mid + length (stack_code (if b then Some (behind_registers homes f) else None))) Backed
    stack_case false is_plain n mid there b h =
        reached_nowhere g n mid Backed there (b.0, b.1, λ p q. absurd (none-some p (sym none ∙ q)))
      where
        none : stack_at homes f ≡ None
        none = ap (λ i. if i then Some (behind_registers homes f) else None) is_plain
    stack_case true is_great n mid there b h =
        let k = numbers in let l = k.low in let u = k.up in let from = k.ra_from in let r = k.stack_small in
        let bytes : stack_bytes f.align ≡ 16 = ap (λ i. if i then 16 else 0) is_great in
        let small = k.small in let z = even in let ze = k.ra_even in let most = above_most in
        reached_as g n (length (store_code 28 2 (behind_registers homes f) 29))
        (mid + length (store_code 28 2 (behind_registers homes f) 29))
        (Stores (at' + behind_registers homes f) 29 (register n 28) n) Backed
        (stores_far s code x stack at' l (omega arith) n mid (ready n mid there b.0) b.0.stack_is 28
        (behind_registers homes f) 29 (λ q. absurd (omega (arith, q))) (omega arith) (omega arith) (omega arith)
        (omega arith) (omega arith)
        (subst (λ (c : Cap). c.fields.address < 2 ^ 64) (sym b.0.caller)
        (subst (λ i. i < 2 ^ 64) (sym (address_of s.map.stack.0 (stack_top s) above)) (omega arith))) h)
        (λ to w. (
          begun_on n to (at' + behind_registers homes f) 16 b.0 w.areas w.same (omega arith) (omega arith) w.registers,
          kept_still (at' + behind_registers homes f) 16 at' n.mem to.mem b.0.areas w.areas (omega arith) z
              (inr (omega arith)) w.same ∙ b.1,
          λ p q. ap (λ i. kept_at to.mem (at' + i)) (sym (here p q)) ∙ w.kept ∙ ap (λ c. Some c) b.0.caller,
        ))
      where
        here : (p : ℕ) → stack_at homes f ≡ Some p → behind_registers homes f ≡ p
        here p q = same_Some (behind_registers homes f) p
            (sym (ap (λ i. if i then Some (behind_registers homes f) else None) is_great) ∙ q)

    backed : Reached g m (length (begin_words ++ link_words ++ stack_words))
        (at + length (begin_words ++ link_words ++ stack_words)) Backed
    backed =
        reached_both g m at (begin_words ++ link_words) stack_words Linked Backed linked
        (λ n there b. stack_case (keeps_stack f.align) refl n (at + length (begin_words ++ link_words)) there b
        (has_back code at (begin_words ++ link_words) stack_words to_stack))

    -- ---- the kept registers

    all_kept : Reached g m (length (prologue_code homes f)) (at + length (prologue_code homes f)) All_kept
    all_kept =
        reached_both g m at (begin_words ++ link_words ++ stack_words) kept_words Backed All_kept backed
        (λ n there b. kept n (at + length (begin_words ++ link_words ++ stack_words)) there b
        (has_back code at (begin_words ++ link_words ++ stack_words) kept_words has))
      where
        word_of_two : (n : Machine) → Begun n → (r : ℕ) → r < 28 → (register n r).fields.address < 2 ^ 64
        word_of_two n b r l = elim (cases_eq r 2) as (λ _. (register n r).fields.address < 2 ^ 64) [
          | inl two ↦
              let k = numbers in let u = k.up in let high = top_most in
              subst (λ i. (register n i).fields.address < 2 ^ 64) (sym two)
              (subst (λ (c : Cap). c.fields.address < 2 ^ 64) (sym b.stack_is)
              (subst (λ i. i < 2 ^ 64) (sym (address_of s.map.stack.0 (stack_top s) at')) (omega arith)))
          | inr other ↦ subst (λ (c : Cap). c.fields.address < 2 ^ 64) (sym (b.others r l other)) (e.words r)
        ]

        kept : (n : Machine) (mid : ℕ) → IsThere g n mid → Backed n → HasAt code mid kept_words
            → Reached g n (length kept_words) (mid + length kept_words) All_kept
        kept n mid there b h =
            let k = numbers in let l = k.low in let u = k.up in let from = k.ra_from in let r = k.ra_small in
            let small = k.small in let z = even in let ze = k.ra_even in
            reached_as g n (length kept_words) (mid + length kept_words) (Saved (at' + ra) rs n) All_kept
            (all_saves s code x stack at' l (omega arith) ra (omega arith) (omega arith) rs (homes_rise homes)
            (kept_most homes) n mid (ready n mid there b.0) b.0.stack_is (omega arith) (word_of_two n b.0) h)
            (λ to w. (
              begun_on n to (at' + ra) (16 * length rs) b.0 w.areas w.same (omega arith) (omega arith) w.registers,
              kept_still (at' + ra) (16 * length rs) at' n.mem to.mem b.0.areas w.areas (omega arith) z
                  (inr (omega arith)) w.same ∙ b.1,
              λ p q. stack_still n to p b.0 w q ∙ b.2 p q,
              λ q j i p.
                  let range = kept_range q i in let q_from = range.0 in let q_to = range.1 in
                  w.kept q j q_to p ∙ ap (λ c. Some c) (b.0.others q q_to (λ d. absurd (omega (arith, d, q_from)))),
            ))
          where
            stack_still : (n to : Machine) (p : ℕ) → Begun n → Saved (at' + ra) rs n to → stack_at homes f ≡ Some p
                → kept_at to.mem (at' + p) ≡ kept_at n.mem (at' + p)
            stack_still n to p b w q =
                let c = cond_some (keeps_stack f.align) (behind_registers homes f) p q in
                let there_is = c.1 in
                let k = numbers in let z = even in let ze = k.ra_even in
                kept_still (at' + ra) (16 * length rs) (at' + p) n.mem to.mem b.areas w.areas (omega arith)
                (omega arith)
                (inl (omega arith)) w.same

    -- ---- the frame is taken

    behind_is : (n : Machine) → All_kept n → (r : ℕ) → IsKept r
        → behind_return s n.mem fun at' (registers_in n) r ≡ Some (register m r)
    behind_is n b r k =
        ap (λ o. from_place n.mem (kept_place o homes at' r) (Some (register n r))) is
        ∙ by (position (λ z. z == r) rs) refl
      where
        by : (o : Option ℕ) → position (λ z. z == r) rs ≡ o
            → from_place n.mem (option_map (λ j. at' + ra + 16 * j) o) (Some (register n r)) ≡ Some (register m r)
        by None q =
            let range = kept_range r k in let from = range.0 in
            ap (λ c. Some c) (b.0.others r range.1 (λ d. absurd (omega (arith, d, from))))
        by (Some j) q = b.3 r j k q

    takes : TakesFrame s code fun f above link (at + length (prologue_code homes f)) at' m
    takes =
        let r = all_kept in
        record {
          after = r.to;
          leads = r.leads;
          there = r.there;
          entered = record {
            registers = r.there.registers;
            areas = r.has.0.areas;
            same = r.has.0.same;
            stack = r.has.0.stack_is;
            table = r.has.0.others 3 (omega arith) (λ q. absurd (omega (arith, q)));
            link_kept = r.has.1;
            stack_kept = r.has.2;
            kept = behind_is r.to r.has;
          };
          caller = r.has.0.caller;
          others = r.has.0.others;
        }

  -- ---- there is none

  none_within : frame_within s.map.stack.0 above (Some f) ≡ None
      → (above < f.size) ⊎ (below above f < s.map.stack.0)
  none_within none = by (nat_lt above f.size) (nat_lt (below above f) s.map.stack.0) refl refl none
    where
      by : (a b : Bool) → nat_lt above f.size ≡ a → nat_lt (below above f) s.map.stack.0 ≡ b
          → (if a || b then None else Some (below above f)) ≡ None → (above < f.size) ⊎ (below above f < s.map.stack.0)
      by true b p q n = inl (ltb-true above f.size p)
      by false true p q n = inr (ltb-true (below above f) s.map.stack.0 q)
      by false false p q n = absurd (none-some (below above f) (sym n))

  -- the address is none at which 16 bytes lie in the stack
  sunk : frame_within s.map.stack.0 above (Some f) ≡ None
      → (down above f < s.map.stack.0) ⊎ (stack_top s < down above f + 16)
  sunk none =
      let least = fits.least in let most = fits.most in let small = fits.small in let end = above_most in
      let high = top_most in
      let near = rounded (less above f.size) f.align (omega arith) in
      elim (none_within none) as (λ _. (down above f < s.map.stack.0) ⊎ (stack_top s < down above f + 16)) [
        | inl short ↦ inr (omega (arith, short, near.1))
        | inr under ↦ under_base (nat_lt above f.size) refl under
      ]
    where
      under_base : (b : Bool) → nat_lt above f.size ≡ b → below above f < s.map.stack.0
          → (down above f < s.map.stack.0) ⊎ (stack_top s < down above f + 16)
      under_base true p under =
          let short = ltb-true above f.size p in
          let least = fits.least in let most = fits.most in let small = fits.small in let end = above_most in
          let high = top_most in
          let near = rounded (less above f.size) f.align (omega arith) in
          inr (omega (arith, short, near.1))
      under_base false p under =
          let long = ltb-false above f.size p in let end = above_most in
          let exact : less above f.size ≡ above - f.size = omega (arith, long) in
          inl (subst (λ n. n < s.map.stack.0) (sym (ap (λ n. n / f.align * f.align) exact)) under)

  down_small : down above f < 2 ^ 64
  down_small =
      let least = fits.least in
      let near = rounded (less above f.size) f.align (omega arith) in omega (arith, near.0)

  moved_address : (c : Cap) (a : ℕ) → (moved c a).fields.address ≡ a
  unfolding moved
  moved_address c a = refl

  -- a store of the link there traps
  fails_there : (n : Machine) → register n 2 ≡ moved (stack_pointer s above) (down above f)
      → (down above f < s.map.stack.0) ⊎ (stack_top s < down above f + 16)
      → (c : Cause) × (store_row n Csc 1 2 (pos 0) ≡ trap n c)
  unfolding store_row
  fails_there n holds out = by (checked c (plus c.fields.address (pos 0)) (access.StoreCap (register n 1).tag)) refl
    where
      c : Cap
      c = register n 2

      by : (r : Result ℕ Cause) → checked (register n 2) (plus (register n 2).fields.address (pos 0))
          (access.StoreCap (register n 1).tag) ≡ r
          → (c : Cause) × (store_checked n 16 (memory_bits (register n 1).fields) (register n 1).tag
          (checked (register n 2) (plus (register n 2).fields.address (pos 0)) (access.StoreCap (register n 1).tag))
          ≡ trap n c)
      by (Err k) q = (k, ap (store_checked n 16 (memory_bits (register n 1).fields) (register n 1).tag) q)
      by (Ok y) q =
          let d : Cap = moved (stack_pointer s above) (down above f) in
          let a = e.from in let b = e.to in let small = down_small in
          let address : plus (register n 2).fields.address (pos 0) ≡ down above f =
          ap (λ (k : Cap). plus k.fields.address (pos 0)) holds
          ∙ ap (λ i. plus i (pos 0)) (moved_address (stack_pointer s
          above) (down above f))
          ∙ (let z : down above f + 0 ≡ down above f = omega arith in near_low (down above f) 0 (omega arith) ∙ z) in
          let ok : checked d (down above f) (access.StoreCap (register n 1).tag) ≡ Ok y =
          ap (λ k. checked k (down above f) (access.StoreCap (register n 1).tag)) (sym holds)
          ∙ ap (λ i. checked (register n 2) i (access.StoreCap (register n 1).tag)) (sym address) ∙ q in
          let p = (checked_passes d (down above f) y (access.StoreCap (register n 1).tag) ok).1 in
          let bounds = moved_bounds (stack_pointer s above) (down above f) p.tagged in
          let own = kept_bounds s.map.stack.0 (stack_top s) data_permissions above
          (stack_keeps above a (omega arith)) in
          let low_is = p.low in let high_is = p.high in
          absurd (outside (omega (arith, low_is, bounds.0, own.0)) (omega (arith, high_is, bounds.1, own.1)) out)
        where
          outside : s.map.stack.0 ≤ down above f → down above f + 16 ≤ stack_top s
              → (down above f < s.map.stack.0) ⊎ (stack_top s < down above f + 16) → ⊥
          outside l h (inl o) = absurd (omega (arith, l, o))
          outside l h (inr o) = absurd (omega (arith, h, o))

  sinks : frame_within s.map.stack.0 above (Some f) ≡ None → Sinks s code f at m
  unfolding row
  sinks none =
      let t = reached g m at (length begin_words) (at + length begin_words) e.there Taken_frame
      (λ n. register n 2 ≡ moved (stack_pointer s above) (down above f))
      (takes_frame s code x homes f fits above above_most e.aligned m at e.there e.stack begun_words)
      (λ n mem t. t.0) in
      let k = fails_there t.to t.has (sunk none) in
      record {
        sinks = t.to;
        leads = t.leads;
        cause = k.0;
        ends = fetched_here g (laid s code x) t.to (at + length begin_words) link_store t.there.counter t.there.text
            link_here ∙ act_on_row t.to link_store refl ∙ ap act_of k.1
            ∙ ap (λ i. Ends (Trap k.0 i)) (counter_place g t.to (at + length begin_words) t.there.counter);
      }

  whole : (o : Option ℕ) → frame_within s.map.stack.0 above (Some f) ≡ o → FrameIsTaken s code fun f above link at m o
  whole (Some at') q = takes at' q
  whole None q = sinks q

pub prologues_run_law : ProloguesRun
prologues_run_law s code x stack fun f is fits above link at m e has =
    whole s code x stack fun f is fits above link at m e has (frame_within s.map.stack.0 above (Some f)) refl
