-- A local whose block is entered: the whole injection stays.
use Rattle.std.proofs.Common.{◌≡◌, ℕ, ◌+◌, ◌-◌, ◌*◌, ◌/◌, ◌%◌, ◌<◌, false, List, refl, ap, ◌∙◌, subst, arith, Option}
use Rattle.std.proofs.Common.{Some, None, inl, inr}
use Rattle.std.specs.Prelude.{slice_get}
use Rattle.std.proofs.lemmas.Bool.{cases_lt}
use Rattle.tag_mem.specs.Areas.{Area, byte_at, tag_at}
use Rattle.cap_machine.specs.declared.machine.Machine.{Machine}
use Rattle.obj_mem.specs.Agreement.{IsNotReturned}
use Rattle.obj_mem.specs.Legal.{Apart, IsLegal}
use Rattle.obj_mem.specs.Objects.{Active, Shape, Memory, Placed, zero_object}
use Rattle.obj_mem.specs.Table.{addresses_of}
use Rattle.cheri_c_sem.specs.Modes.{Store, with_memory}
use Rattle.cheri_c_sem.specs.Steps.{State}
use Rattle.placement.specs.Memories.{IsClear}
use Rattle.placement.proofs.Lists.{some_same}
use Rattle.placement.proofs.Shapes.{Alters, alters_life, clear_same}
use Rattle.place_inject.specs.Changes.{Zeroed, granules_of}
use Rattle.place_inject.specs.Parts.{Unchanged, HeapFits, TableFits}
use Rattle.place_inject.specs.Frames.{Setting, Point, IsLive, functions_of}
use Rattle.place_inject.specs.Fits.{Fits, CallsFit, HomesAreUsable, registers_in}
use Rattle.place_inject.specs.Zeroing.{IsZeroed, ZeroKeepsFits}
use Rattle.place_inject.proofs.Altered.{globals_altered, locals_altered, homes_altered, frames_altered}
use Rattle.place_inject.proofs.Elsewhere as elsewhere
use Rattle.place_inject.proofs.FramesKept.{all_use, calls_kept}
use Rattle.place_inject.proofs.Reshaped.{come_and_go_law}

-- the granules of an object are apart from what begins with a granule and has no byte of the object
widen : (b owns base long : ℕ) → b % 16 ≡ 0 → base % 16 ≡ 0 → Apart b owns base long
    → Apart b (16 * ((owns + 15) / 16)) base long
widen b owns base long z y (inl before) = inl (omega arith)
widen b owns base long z y (inr behind) = inr behind

-- zeros and untagged granules stay so
module _ (b n : ℕ) (aligned : b % 16 ≡ 0) (old new : List Area) (z : Zeroed b n old new) where
  zero_still : (x : ℕ) → byte_at old x ≡ Some 0 → byte_at new x ≡ Some 0
  zero_still x e = elim (cases_lt x b) as (λ _. byte_at new x ≡ Some 0) [
    | inl low ↦ z.same.bytes x (λ q. absurd (omega arith)) ∙ e
    | inr from ↦ elim (cases_lt x (b + 16 * n)) as (λ _. byte_at new x ≡ Some 0) [
      | inl to ↦
          let is : b + (x - b) ≡ x = omega arith in
          subst (λ y. byte_at new y ≡ Some 0) is (z.bytes (x - b) (omega arith))
      | inr high ↦ z.same.bytes x (λ q. omega arith) ∙ e
    ]
  ]

  untagged_still : (g : ℕ) → tag_at old (16 * g) ≡ Some false → tag_at new (16 * g) ≡ Some false
  untagged_still g e = elim (cases_lt (16 * g) b) as (λ _. tag_at new (16 * g) ≡ Some false) [
    | inl low ↦ z.same.tags (16 * g) (λ y q r. absurd (omega arith)) ∙ e
    | inr from ↦ elim (cases_lt (16 * g) (b + 16 * n)) as (λ _. tag_at new (16 * g) ≡ Some false) [
      | inl to ↦
          let is : b + (16 * g - b) ≡ 16 * g = omega arith in
          subst (λ y. tag_at new y ≡ Some false) is (z.tags (16 * g - b) (omega arith))
      | inr high ↦ z.same.tags (16 * g) (λ y q r. omega arith) ∙ e
    ]
  ]

module _ (s : Setting) (legal : IsLegal s.needs s.map) (usable : HomesAreUsable s) (p : Option Point) (t : State Store)
    (m : Machine) (f : Fits s p t m) (k : ℕ) (g : Shape) (there : slice_get t.mem.memory.shapes k ≡ Some g)
    (stays : IsNotReturned g.life) (after : Machine) (z : IsZeroed m after g) where
  abbrev shapes : List Shape
  shapes = t.mem.memory.shapes

  abbrev zeroed : Memory
  zeroed = zero_object (Placed (addresses_of s.map)) t.mem.memory k

  aligned : g.base % 16 ≡ 0
  aligned = f.objects.aligned k g there

  alters : Alters shapes zeroed.shapes
  alters = alters_life Active tt shapes k (slice_get shapes k) refl
      (λ u e. subst (λ (x : Shape). IsNotReturned x.life) (some_same (slice_get shapes k) g u there e) stays)

  off : (base long : ℕ) → base % 16 ≡ 0 → IsClear shapes base long
      → Apart g.base (16 * granules_of g) base long
  off base long y c = widen g.base g.owned base long aligned y (c.clear k g there stays)

  clear_still : (base long : ℕ) → IsClear shapes base long → IsClear zeroed.shapes base long
  clear_still base long c = clear_same shapes zeroed.shapes alters.back base long c

  text_same : Unchanged s.map.text.0 s.map.text.1 m.mem after.mem
  text_same =
      let long : s.map.text.0 + s.map.text.1 - s.map.text.0 ≡ s.map.text.1 = omega arith in
      elsewhere.elsewhere g.base (16 * granules_of g) s.map.text.0 s.map.text.1 m.mem after.mem aligned
      legal.text_aligned
      (widen g.base g.owned s.map.text.0 s.map.text.1 aligned legal.text_aligned
      (subst (λ n. Apart g.base g.owned s.map.text.0 n) long (f.objects.spread.off_text k g there))) z.memory.same

  table_still : TableFits s.needs s.map t.mem.heap zeroed.shapes s.loaded.mem after.mem
  table_still =
      let x = elsewhere.table_kept shapes g.base (16 * granules_of g) aligned off m.mem after.mem z.memory.same
      f.objects.areas z.memory.areas s.needs s.map t.mem.heap s.loaded.mem legal.table_aligned f.table in
      record {
        room = x.room;
        before = x.before;
        behind = x.behind;
        heap = x.heap;
        clear = clear_still s.map.table.0 s.map.table.1 x.clear;
      }

  heap_still : HeapFits (addresses_of s.map) t.mem.heap zeroed.shapes after.mem
  heap_still = record {
    from = f.heap.from;
    to = f.heap.to;
    zeros = λ x l h. zero_still g.base (granules_of g) aligned m.mem after.mem z.memory x (f.heap.zeros x l h);
    untagged = λ x l h. untagged_still g.base (granules_of g) aligned m.mem after.mem z.memory x
        (f.heap.untagged x l h);
    clear = clear_still _ _ f.heap.clear;
  }

  calls_still : (q : Option Point) → CallsFit s q t m
      → CallsFit s q (record t { mem = with_memory t.mem zeroed }) after
  calls_still None c = c
  calls_still (Some q) c =
      let c' = calls_kept s shapes m.mem after.mem f.objects.areas z.memory.areas
      0 (λ fun first at above link h up. elsewhere.clear_same shapes g.base
      (16 * granules_of g) aligned off m.mem after.mem
      z.memory.same f.objects.areas z.memory.areas at h.frame.saved h.aligned h.clear) (λ r. r < 28)
      (registers_in m) (registers_in after) (λ r u. ap (λ c. Some c) (z.alike r u)) q.running.fun t.first t.frame
      (omega arith) q.running.callers (functions_of s) (addresses_of s.map) (IsLive s q) t.vars
      (λ u r l e. usable q.running.fun u r e) (all_use s (λ r. r < 28) usable q.running.callers) c.1 c.2 in (
        locals_altered s shapes zeroed.shapes alters q.running.fun t.first t.frame c.0,
        homes_altered s shapes zeroed.shapes alters after.mem (registers_in after) _ _ _ (IsLive s q) t.vars c'.0,
        frames_altered s shapes zeroed.shapes alters after.mem (registers_in after) q.running.fun t.first t.frame
            q.running.callers c'.1,
      )

  zero_keeps : Fits s p (record t { mem = with_memory t.mem zeroed }) after
  zero_keeps = record {
    registers = z.registers;
    objects = (come_and_go_law (functions_of s) (addresses_of s.map) t.mem.memory m.mem f.objects).zeroes k g there
        stays
        after.mem z.memory;
    globals = globals_altered s shapes zeroed.shapes alters f.globals;
    text = elsewhere.twice s.map.text.0 s.map.text.1 s.loaded.mem m.mem after.mem f.text text_same;
    table = table_still;
    heap = heap_still;
    stack = record {
      stack = z.alike 2 (omega arith) ∙ f.stack.stack;
      table = z.alike 3 (omega arith) ∙ f.stack.table;
      clear = clear_still _ _ f.stack.clear;
    };
    calls = calls_still p f.calls;
    places = λ x. z.memory.same.places x ∙ f.places x;
  }

pub zero_keeps_fits_law : ZeroKeepsFits
zero_keeps_fits_law s legal usable p t m f k g there stays after z =
    zero_keeps s legal usable p t m f k g there stays after z
