-- A store through a value keeps the injection.
use Rattle.std.proofs.Common.{◌≡◌, ℕ, ◌+◌, ◌-◌, ◌%◌, ◌<◌, length, List, refl, ap, ◌∙◌, subst, arith, Option, Some, None}
use Rattle.std.specs.Prelude.{pos, Result, Ok, Err}
use Rattle.tag_mem.specs.Areas.{Area}
use Rattle.cap_machine.specs.declared.machine.Machine.{Machine}
use Rattle.cap_machine.specs.declared.end.Step.{Step}
use Rattle.cap_machine.specs.Integers.{stored_bytes}
use Rattle.cap_machine.specs.State.{register, next}
use Rattle.cap_machine.specs.Rows.{store_row}
use Rattle.obj_mem.specs.declared.ending.Fault.{Fault}
use Rattle.obj_mem.specs.declared.ending.Fault.TheVariants as F
use Rattle.obj_mem.specs.Agreement.{IsNotReturned}
use Rattle.obj_mem.specs.Legal.{Apart, IsLegal}
use Rattle.obj_mem.specs.Objects.{Memory, Placed}
use Rattle.obj_mem.specs.Access.{store}
use Rattle.obj_mem.specs.Table.{addresses_of}
use Rattle.cheri_c_sem.specs.Modes.{Store, with_memory}
use Rattle.cheri_c_sem.specs.Steps.{State}
use Rattle.placement.specs.Memories.{IsClear}
use Rattle.place_inject.specs.Objects.{ChangedInside, ObjectsFit}
use Rattle.place_inject.specs.Steps.{StoreAnswers}
use Rattle.place_inject.specs.Parts.{Unchanged}
use Rattle.place_inject.specs.Frames.{Setting, Point, IsLive, functions_of}
use Rattle.place_inject.specs.Fits.{Fits, CallsFit, registers_in, StoreKeeps, StoresKeepFits, HomesAreUsable}
use Rattle.place_inject.specs.Fits.{ScratchKeepsFits}
use Rattle.place_inject.proofs.Changed.{active_stays}
use Rattle.place_inject.proofs.Elsewhere.{twice, elsewhere, clear_same, heap_kept, table_kept}
use Rattle.place_inject.proofs.FramesKept.{all_use, calls_kept}
use Rattle.place_inject.proofs.Storing.{stores_fit_law}

module _ (s : Setting) (legal : IsLegal s.needs s.map) (p : Option Point) (t : State Store) (m : Machine)
    (f : Fits s p t m) (objects : Memory) (new : List Area)
    (fit : ObjectsFit (functions_of s) (addresses_of s.map) objects new)
    (shapes : objects.shapes ≡ t.mem.memory.shapes) (inside : ChangedInside t.mem.memory.shapes m.mem new) where
  stays : IsNotReturned inside.shape.life
  stays = active_stays inside.shape.life inside.active

  aligned : inside.shape.base % 16 ≡ 0
  aligned = f.objects.aligned inside.object inside.shape inside.there

  off : (base long : ℕ) → base % 16 ≡ 0 → IsClear t.mem.memory.shapes base long
      → Apart inside.shape.base inside.shape.owned base long
  off base long y c = c.clear inside.object inside.shape inside.there stays

  text_same : Unchanged s.map.text.0 s.map.text.1 m.mem new
  text_same =
      let long : s.map.text.0 + s.map.text.1 - s.map.text.0 ≡ s.map.text.1 = omega arith in
      let apart = f.objects.spread.off_text inside.object inside.shape inside.there in
      elsewhere inside.shape.base inside.shape.owned s.map.text.0 s.map.text.1 m.mem new aligned legal.text_aligned
      (subst (λ n. Apart inside.shape.base inside.shape.owned s.map.text.0 n) long apart) inside.same

  calls_same : (q : Option Point) → CallsFit s q t m → CallsFit s q (record t { mem = with_memory t.mem objects })
      (next (record m { mem = new }))
  calls_same None c = c
  calls_same (Some q) c =
      let c' = calls_kept s t.mem.memory.shapes m.mem new f.objects.areas fit.areas
      0 (λ fun first at above link g up. clear_same t.mem.memory.shapes inside.shape.base inside.shape.owned aligned off
      m.mem new
      inside.same f.objects.areas fit.areas at g.frame.saved g.aligned g.clear)
      (λ r. Unit {0}) (registers_in m) (registers_in m) (λ r u. refl)
      q.running.fun t.first t.frame (omega arith) q.running.callers (functions_of s) (addresses_of s.map)
      (IsLive s q) t.vars
      (λ u r l e. tt) (all_use s (λ r. Unit {0}) (λ fun u r e. tt) q.running.callers) c.1 c.2 in
      rw shapes (c.0, c'.0, c'.1)

  pub kept : Fits s p (record t { mem = with_memory t.mem objects }) (next (record m { mem = new }))
  kept = record {
    registers = f.registers;
    objects = fit;
    globals = rw shapes f.globals;
    text = twice s.map.text.0 s.map.text.1 s.loaded.mem m.mem new f.text text_same;
    table = rw shapes (table_kept t.mem.memory.shapes inside.shape.base inside.shape.owned aligned off m.mem new
        inside.same
        f.objects.areas fit.areas s.needs s.map t.mem.heap s.loaded.mem legal.table_aligned f.table);
    heap = rw shapes (heap_kept t.mem.memory.shapes inside.object inside.shape inside.there stays m.mem new inside.same
        (addresses_of s.map) t.mem.heap f.heap);
    stack = record { stack = f.stack.stack; table = f.stack.table; clear = rw shapes f.stack.clear };
    calls = calls_same p f.calls;
    places = λ x. inside.same.places x ∙ f.places x;
  }

module _ (s : Setting) (legal : IsLegal s.needs s.map) (p : Option Point) (t : State Store) (m : Machine)
    (f : Fits s p t m) where
  by_answer : (r : Result Memory Fault) (step : Step × Machine)
      → StoreAnswers (functions_of s) (addresses_of s.map) t.mem.memory m r step → StoreKeeps s p t m r step
  by_answer (Ok objects) step a = (
    next
        (record m { mem = a.memory }),
    a.goes,
    kept s legal p t m f objects a.memory a.fit a.shapes a.inside,
  )
  by_answer (Err (F.Cause c)) step a = a
  by_answer (Err F.Outside) step a = tt
  by_answer (Err (F.Unspecified r)) step a = absurd a

pub stores_keep_law : StoresKeepFits
stores_keep_law s legal p t m f op from to x v k kx kv hx hv =
    by_answer s legal p t m f (store (Placed (addresses_of s.map)) t.mem.memory x (stored_bytes op) v)
    (store_row m op from to (pos 0))
    (stores_fit_law (functions_of s) (addresses_of s.map) t.mem.memory m f.objects op from to x v k kx kv hx hv)

-- ---- scratch registers

pub same_memory : (at n : ℕ) (memory : List Area) → Unchanged at n memory memory
same_memory at n memory = record { bytes = λ x l h. refl; tags = λ x l h. refl }

module _ (s : Setting) (usable : HomesAreUsable s) (p : Option Point) (t : State Store) (m : Machine) (f : Fits s p t m)
    (after : Machine) (long : length after.regs ≡ 32) (mem : after.mem ≡ m.mem)
    (alike : (r : ℕ) → r < 28 → register after r ≡ register m r) where
  still : (q : Option Point) → CallsFit s q t m → CallsFit s q t after
  still None c = c
  still (Some q) c =
      let c' = calls_kept s t.mem.memory.shapes m.mem m.mem f.objects.areas f.objects.areas
      0 (λ fun first at above link g up. same_memory at g.frame.saved m.mem) (λ r. r < 28) (registers_in m)
      (registers_in after)
      (λ r u. ap (λ c. Some c) (alike r u)) q.running.fun t.first t.frame (omega arith) q.running.callers
      (functions_of s)
      (addresses_of s.map)
      (IsLive s q) t.vars (λ u r l e. usable q.running.fun u r e) (all_use s (λ r. r < 28) usable q.running.callers)
      c.1 c.2 in
      rw mem (c.0, c'.0, c'.1)

  scratched : Fits s p t after
  scratched = record {
    registers = long;
    objects = rw mem f.objects;
    globals = f.globals;
    text = rw mem f.text;
    table = rw mem f.table;
    heap = rw mem f.heap;
    stack = record {
      stack = alike 2 (omega arith) ∙ f.stack.stack;
      table = alike 3 (omega arith)
          ∙ f.stack.table;
      clear = f.stack.clear;
    };
    calls = still p f.calls;
    places = rw mem f.places;
  }

pub scratch_keeps_law : ScratchKeepsFits
scratch_keeps_law s usable p t m f after long mem alike = scratched s usable p t m f after long mem alike
