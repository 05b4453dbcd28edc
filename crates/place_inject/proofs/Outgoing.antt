-- A granule of the outgoing arguments changes: nothing that the injection looks at stands there.
use Rattle.std.proofs.Common.{◌≡◌, ◌⊎◌, ℕ, ◌+◌, ◌*◌, ◌%◌, ◌<◌, ◌≤◌, ◌==◌, List, [], ◌∷◌, refl, sym, ap, ◌∙◌}
use Rattle.std.proofs.Common.{arith, Option, Some, None, inl, inr}
use Rattle.std.specs.Prelude.{slice_get, position}
use Rattle.std.specs.Option.{option_map}
use Rattle.std.proofs.lemmas.Bool.{cases_lt}
use Rattle.std.proofs.lemmas.Option.{same_Some, cond_some}
use Rattle.tag_mem.specs.Areas.{Area}
use Rattle.cap_machine.specs.declared.machine.Machine.{Machine}
use Rattle.cheri_c_sem.specs.Modes.{Store}
use Rattle.cheri_c_sem.specs.Steps.{State}
use Rattle.obj_mem.specs.Legal.{Apart, IsLegal}
use Rattle.obj_mem.specs.Objects.{Shape}
use Rattle.obj_mem.specs.Table.{addresses_of}
use Rattle.obj_mem.specs.declared.map.Frame.{Frame}
use Rattle.reg_alloc.specs.declared.places.Home.{Home}
use Rattle.reg_alloc.specs.declared.places.Home.TheVariants.{Register, Slot}
use Rattle.purecap_abi.specs.Saving.{kept_homes, keeps_stack, registers_at, behind_registers, stack_at}
use Rattle.purecap_abi.specs.Saving.{slots_at}
use Rattle.tac_ir.specs.Meaning.{Caller}
use Rattle.place_inject.specs.Objects.{ObjectsFit}
use Rattle.place_inject.specs.Parts.{Unchanged, kept_at, HeapFits, TableFits}
use Rattle.place_inject.specs.Frames.{Setting, Point, IsLive, Waits, homes_of, functions_of, slots_from, stack_top}
use Rattle.place_inject.specs.Frames.{at_home, HomesFit, kept_place, from_place, behind_return, FrameFits, FramesFit}
use Rattle.place_inject.specs.Fits.{Fits, HomesAreUsable, registers_in}
use Rattle.place_inject.specs.Outgoing.{ChangesGranule, OutgoingKeepsFits}
use Rattle.place_inject.proofs.Changed.{active_stays}
use Rattle.place_inject.proofs.Elsewhere.{twice, elsewhere, kept_same, table_by, heap_aside}
use Rattle.place_inject.proofs.FramesKept.{stack_multiple, all_use, calls_kept}
use Rattle.place_inject.proofs.Lying.{within}
use Rattle.place_inject.proofs.ReadBack.{under_top}
use Rattle.place_inject.proofs.Kept.{kept_apart}

-- granules that begin at other places
apart_granules : (at place : ℕ) → at % 16 ≡ 0 → place % 16 ≡ 0 → (place ≡ at → ⊥) → ((place < at) ⊎ (at ≤ place))
    → Apart at 16 place 16
apart_granules at place y z ne (inl low) = inr (omega (arith, low, y, z))
apart_granules at place y z ne (inr high) = inl (omega (arith, high, y, z, ne))

module _ (s : Setting) (legal : IsLegal s.needs s.map) (usable : HomesAreUsable s) (p : Point) (t : State Store)
    (m : Machine) (f : Fits s (Some p) t m) (frame : Frame) (is : slice_get s.map.frames p.running.fun ≡ Some frame)
    (offset : ℕ) (from_link : 16 ≤ offset) (to_kept : offset + 16 ≤ registers_at (homes_of s p.running.fun) frame)
    (whole : offset % 16 ≡ 0) (after : Machine) (w : ChangesGranule m after (t.frame + offset)) where
  abbrev homes : List Home
  homes = homes_of s p.running.fun

  abbrev shapes : List Shape
  shapes = t.mem.memory.shapes

  abbrev at : ℕ
  at = t.frame + offset

  abbrev new : List Area
  new = after.mem

  module _ (above link : ℕ) (g : FrameFits s shapes m.mem p.running.fun t.first t.frame above link)
      (top_is : above ≤ stack_top s) where
    -- where the granule lies
    record Lying : Type 0 where
      room : offset + 16 ≤ g.frame.saved
      before : offset + 16 ≤ registers_at homes g.frame
      kept_even : registers_at homes g.frame % 16 ≡ 0
      aligned : at % 16 ≡ 0
      low : s.map.stack.0 ≤ t.frame
      high : t.frame + g.frame.saved ≤ above

    lying : Lying
    lying =
        let lies = within s.map.stack.0 above t.frame g.frame g.below in
        let from_low = lies.from in
        let to_high = lies.to in
        let saved = g.for_homes.saved in
        let inside = g.for_homes.inside in
        let aligned = g.aligned in
        let z16 = stack_multiple g.frame.align in
        let same : registers_at homes frame ≡ registers_at homes g.frame =
        ap (registers_at homes) (same_Some frame g.frame (sym is ∙ g.is)) in
        record {
          room = omega (arith, same);
          before = omega (arith, same);
          kept_even = omega arith;
          aligned = omega arith;
          low = from_low;
          high = omega arith;
        }

    -- ---- objects, and the parts of no object

    off_object : (base long : ℕ) → Apart base long t.frame g.frame.saved → Apart base long at 16
    off_object base long (inl before) = inl (omega arith)
    off_object base long (inr behind) = let r = lying.room in inr (omega arith)

    off_part : (base long : ℕ) → Apart base long s.map.stack.0 s.map.stack.1 → Apart at 16 base long
    off_part base long (inl before) = let l = lying.low in inr (omega arith)
    off_part base long (inr behind) = let r = lying.room in let h = lying.high in inl (omega arith)

    objects_still : ObjectsFit (functions_of s) (addresses_of s.map) t.mem.memory new
    objects_still = record {
      areas = w.areas;
      spread = f.objects.spread;
      aligned = f.objects.aligned;
      one_each = f.objects.one_each;
      sound = f.objects.sound;
      stands = λ k h x e q l.
          kept_apart (addresses_of s.map) shapes h x at 16 m.mem new (f.objects.aligned k h e) lying.aligned
          (off_object h.base h.owned (g.clear.clear k h e (active_stays h.life l))) w.same
          (f.objects.stands k h x e q l);
    }

    part_still : (base long : ℕ) → base % 16 ≡ 0 → Apart base long s.map.stack.0 s.map.stack.1 →
        Unchanged base long m.mem new
    part_still base long z apart = elsewhere at 16 base long m.mem new lying.aligned z (off_part base long apart) w.same

    table_still : TableFits s.needs s.map t.mem.heap shapes s.loaded.mem new
    table_still =
        table_by shapes m.mem new f.objects.areas w.areas s.needs s.map t.mem.heap s.loaded.mem legal.table_aligned
        (part_still s.map.table.0 s.map.table.1 legal.table_aligned legal.apart.1.0.1.0) f.table

    heap_still : HeapFits (addresses_of s.map) t.mem.heap shapes new
    heap_still =
        heap_aside at 16 m.mem new w.same (addresses_of s.map) s.map.heap.1 refl t.mem.heap shapes
        (off_part s.map.heap.0 s.map.heap.1 legal.apart.1.1.0.0) f.heap

    -- ---- what frames keep

    kept_other : (place : ℕ) → place % 16 ≡ 0 → (place ≡ at → ⊥) → kept_at new place ≡ kept_at m.mem place
    kept_other place z ne =
        kept_same place 16 place m.mem new f.objects.areas w.areas
        (elsewhere at 16 place 16 m.mem new lying.aligned z (apart_granules at place lying.aligned z ne
        (cases_lt place at)) w.same)
        z (omega arith) (omega arith)

    frame_still : FrameFits s shapes new p.running.fun t.first t.frame above link
    frame_still =
        let z = g.aligned in
        record {
          frame = g.frame;
          is = g.is;
          for_homes = g.for_homes;
          below = g.below;
          aligned = g.aligned;
          link_kept = kept_other t.frame z (λ e. absurd (omega (arith, e, from_link))) ∙ g.link_kept;
          stack_kept = λ place e. stack_still place e ∙ g.stack_kept place e;
          clear = g.clear;
          alone = g.alone;
        }
      where
        stack_still : (place : ℕ) → stack_at homes g.frame ≡ Some place →
            kept_at new (t.frame + place) ≡ kept_at m.mem (t.frame + place)
        stack_still place e =
            let c = cond_some (keeps_stack g.frame.align) (behind_registers homes g.frame) place e in
            let there = c.1 in
            let y = lying.kept_even in let z = g.aligned in let b = lying.before in
            kept_other (t.frame + place) (omega arith) (λ d. absurd (omega (arith, d, b, there)))

    -- the registers behind the return are the same
    by_place : (r : ℕ) → r < 28 → (k : Option ℕ) → position (λ x. x == r) (kept_homes homes) ≡ k
        → from_place new (option_map (λ j. t.frame + registers_at homes g.frame + 16 * j) k) (registers_in after r)
        ≡ from_place m.mem (option_map (λ j. t.frame + registers_at homes g.frame + 16 * j) k) (registers_in m r)
    by_place r l None e = ap (λ c. Some c) (w.alike r l)
    by_place r l (Some j) e =
        let b = lying.before in let y = lying.kept_even in let z = g.aligned in
        kept_other (t.frame + registers_at homes g.frame + 16 * j) (omega arith) (λ d. absurd (omega (arith, d, b)))

    behind_same : (r : ℕ) → r < 28
        → behind_return s new p.running.fun t.frame (registers_in after) r
        ≡ behind_return s m.mem p.running.fun t.frame (registers_in m) r
    behind_same r l =
        let k = position (λ x. x == r) (kept_homes homes) in
        let place : kept_place (slice_get s.map.frames p.running.fun) homes t.frame r
        ≡ option_map (λ j. t.frame + registers_at homes g.frame + 16 * j) k =
        ap (λ o. kept_place o homes t.frame r) g.is in
        ap (λ o. from_place new o (registers_in after r)) place ∙ by_place r l k refl
        ∙ sym (ap (λ o. from_place m.mem o (registers_in m r)) place)

    -- ---- the homes of the function that runs

    abbrev slots : ℕ
    slots = slots_from (slice_get s.map.frames p.running.fun) homes t.frame

    home_still : (k : ℕ) (h : Home) → slice_get homes k ≡ Some h
        → at_home new (registers_in after) slots h ≡ at_home m.mem (registers_in m) slots h
    home_still k (Register r) e = ap (λ c. Some c) (w.alike r (usable p.running.fun k r e))
    home_still k (Slot j) e =
        let slots_are : slots ≡ t.frame + slots_at homes g.frame = ap (λ x. slots_from x homes t.frame) g.is in
        let y = lying.kept_even in let z = g.aligned in let b = lying.before in
        let z16 = stack_multiple g.frame.align in
        kept_other (slots + 16 * j) (omega (arith, slots_are)) (λ q. absurd (omega (arith, slots_are, q, b)))

    homes_still : HomesFit (functions_of s) (addresses_of s.map) shapes new (registers_in after) homes
        (s.numbers p.running.fun) slots (IsLive s p) t.vars
    homes_still = record {
      one_each = f.calls.1.one_each;
      kept = λ k h l n e. home_still k h e ∙ f.calls.1.kept k h l n e;
      numbered = f.calls.1.numbered;
      known = f.calls.1.known;
    }

    -- ---- all of it

    still_fits : FramesFit s shapes new (registers_in after) p.running.fun t.first t.frame p.running.callers
        → Fits s (Some p) t after
    still_fits frames = record {
      registers = w.registers;
      objects = objects_still;
      globals = f.globals;
      text = twice s.map.text.0 s.map.text.1 s.loaded.mem m.mem new f.text
          (part_still s.map.text.0 s.map.text.1 legal.text_aligned legal.apart.0.1.1.0);
      table = table_still;
      heap = heap_still;
      stack = record {
        stack = w.alike 2 (omega arith) ∙ f.stack.stack;
        table = w.alike 3 (omega arith) ∙ f.stack.table;
        clear = f.stack.clear;
      };
      calls = (f.calls.0, homes_still, frames);
      places = λ x. w.same.places x ∙ f.places x;
    }

  -- the callers' frames lie above
  fits_by : (cs : List Caller) → FramesFit s shapes m.mem (registers_in m) p.running.fun t.first t.frame cs
      → (FramesFit s shapes new (registers_in after) p.running.fun t.first t.frame cs
      → FramesFit s shapes new (registers_in after) p.running.fun t.first t.frame p.running.callers)
      → Fits s (Some p) t after
  fits_by [] g all =
      still_fits (stack_top s) s.stub g (omega arith) (all (frame_still (stack_top s) s.stub g (omega arith)))
  fits_by (c ∷ cs) g all =
      let now = behind_return s m.mem p.running.fun t.frame (registers_in m) in
      let now' = behind_return s new p.running.fun t.frame (registers_in after) in
      let top_is = under_top s shapes m.mem now c.fun c.first c.frame cs g.3 in
      let link = s.back c.fun c.rest in
      let place = lying c.frame link g.0 top_is in
      let r = place.room in let h = place.high in
      let tail = calls_kept s shapes m.mem new f.objects.areas w.areas c.frame
      (λ fun first at' above link' k up. elsewhere at 16 at' k.frame.saved m.mem new place.aligned k.aligned
      (inl (omega arith)) w.same)
      (λ r. r < 28) now now' (behind_same c.frame link g.0 top_is) c.fun c.first c.frame (omega arith) cs
      (functions_of s) (addresses_of s.map) (Waits s c) c.vars (λ k i l e. usable c.fun k i e)
      (all_use s (λ r. r < 28) usable cs) g.2 g.3 in
      still_fits c.frame link g.0 top_is (all (frame_still c.frame link g.0 top_is, g.1, tail.0, tail.1))

pub outgoing_keeps_fits_law : OutgoingKeepsFits
outgoing_keeps_fits_law s legal usable p t m f frame is offset from_link to_kept whole after w =
    fits_by s legal usable p t m f frame is offset from_link to_kept whole after w p.running.callers f.calls.2 (λ a. a)
