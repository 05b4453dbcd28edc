-- A return keeps the injection: the callee's locals have ended, and the caller's temps are where they were.
use Rattle.std.proofs.Common.{◌≡◌, ℕ, suc, ◌+◌, ◌<◌, List, [], ◌∷◌, length, Some, sym}
use Rattle.std.proofs.Common.{◌∙◌, subst, arith}
use Rattle.std.specs.Prelude.{slice_get}
use Rattle.std.proofs.lemmas.Option.{same_Some}
use Rattle.tag_mem.specs.Areas.{Area}
use Rattle.cap_machine.specs.declared.machine.Machine.{Machine}
use Rattle.cheri_c_sem.specs.Calls.{end_locals}
use Rattle.cheri_c_sem.specs.Modes.{Store, operations, placed_plan, with_memory}
use Rattle.cheri_c_sem.specs.Steps.{State}
use Rattle.obj_mem.specs.Legal.{ObjectNeed}
use Rattle.obj_mem.specs.Objects.{Shape, end, base_in}
use Rattle.obj_mem.specs.Table.{addresses_of}
use Rattle.obj_mem.specs.Values.{Value, Addresses, capability_of}
use Rattle.placement.proofs.Ended.{Ends, ends}
use Rattle.placement.proofs.Shapes.{AreFrom, IsFrom, clear_same}
use Rattle.reg_alloc.specs.Placed.{IsKept}
use Rattle.tac_ir.specs.Meaning.{Caller}
use Rattle.tac_ir.specs.declared.code.TacInstr.{TacInstr}
use Rattle.place_inject.specs.Values.{IsKnown}
use Rattle.place_inject.specs.Objects.{ObjectsFit}
use Rattle.place_inject.specs.Parts.{TableFits, HeapFits}
use Rattle.place_inject.specs.Frames.{Setting, Registers, IsAt, IsLive, Waits, GlobalsFit, LocalsFit, HomesFit}
use Rattle.place_inject.specs.Frames.{FramesFit, functions_of, homes_of, locals_by, slots_from, stack_top}
use Rattle.place_inject.specs.Frames.{behind_return}
use Rattle.place_inject.specs.Fits.{Fits, registers_in}
use Rattle.place_inject.specs.Homes.{CallersKeep}
use Rattle.place_inject.specs.Leaving.{CallersAreOlder, OthersAreOlder, caller_at, callee_at, returned, IsBack}
use Rattle.place_inject.specs.Leaving.{LeavesFit}
use Rattle.place_inject.specs.Registers.{CallersUseOnly}
use Rattle.place_inject.proofs.Altered.{homes_later, frame_later}
use Rattle.place_inject.proofs.FramesKept.{calls_kept}
use Rattle.place_inject.proofs.Reshaped.{Same, known_later, capability_later, come_and_go_law}
use Rattle.place_inject.proofs.Returning.{returns_clear_law}
use Rattle.place_inject.proofs.StoresKeep.{same_memory}

-- objects fit while locals end
ends_fit : (s : Setting) (functions : ℕ) (a : Addresses) (memory : List Area) (lengths : List ℕ) (st : Store) (k : ℕ)
    → ObjectsFit functions a st.memory memory
    → ObjectsFit functions a (end_locals (operations (placed_plan s.map)) st k lengths).memory memory
unfolding operations
ends_fit s functions a memory [] st k f = f
ends_fit s functions a memory (l ∷ ls) st k f =
    ends_fit s functions a memory ls (with_memory st (end st.memory k)) (suc k)
    ((come_and_go_law functions a st.memory memory f).ends k)

pub kept_only : (s : Setting) (cs : List Caller) → CallersKeep s cs → CallersUseOnly s IsKept cs
kept_only s [] k = tt
kept_only s (c ∷ cs) k = (k.0, kept_only s cs k.1)

module _ (s : Setting) (fun : ℕ) (c : Caller) (cs : List Caller) (left : List TacInstr) (t : State Store) (m : Machine)
    (f : Fits s (Some (callee_at fun c cs left)) t m) (keeps : CallersKeep s (c ∷ cs))
    (older : OthersAreOlder s t.first (c ∷ cs)) (lengths : List ℕ)
    (long : length lengths ≡ length (locals_by (slice_get s.needs.functions fun))) where
  abbrev shapes : List Shape
  shapes = t.mem.memory.shapes

  abbrev out : Store
  out = end_locals (operations (placed_plan s.map)) t.mem t.first lengths

  abbrev ended : List Shape
  ended = out.memory.shapes

  are_ended : Ends (placed_plan s.map) t.first (length lengths) t.mem out
  are_ended = ends (placed_plan s.map) lengths t.mem t.first

  back : AreFrom shapes ended
  back i h e = let y = are_ended.shapes.back i h e in (y.0, y.1, y.2)

  same : Same shapes ended
  same = record {
    forth = λ i g e.
        let x = are_ended.shapes.forth i g e in
        let y = back i x.0 x.1 in
        (x.0, x.1, subst (λ u. IsFrom u x.0) (same_Some y.0 g (sym y.1 ∙ e)) y.2);
  }

  -- a value that is known has the capability that it had
  pub value_stays : (v : Value) → IsKnown shapes (functions_of s) v
      → IsKnown ended (functions_of s) v
      × (capability_of (addresses_of s.map) (base_in ended) v ≡ capability_of (addresses_of s.map) (base_in shapes) v)
  value_stays v k = (
    known_later shapes ended same (functions_of s) v k,
    capability_later shapes ended same (functions_of s) (addresses_of s.map) v k,
  )

  -- ---- older objects

  still_at : (o : ℕ) (need : ObjectNeed) (base : ℕ) → o < t.first → IsAt shapes o need base → IsAt ended o need base
  still_at o need base less i = record {
    shape = i.shape;
    there = are_ended.shapes.below o less ∙ i.there;
    length = i.length;
    base_is = i.base_is;
    stays = i.stays;
  }

  globals_still : GlobalsFit s ended
  globals_still = record {
    each = λ k base need e q. still_at k need base (older.globals k base e) (f.globals.each k base need e q);
  }

  -- the frames of the callers
  frames_still : (registers : Registers) (fun' first at : ℕ) (ds : List Caller) → CallersAreOlder s t.first ds
      → FramesFit s shapes m.mem registers fun' first at ds → FramesFit s ended m.mem registers fun' first at ds
  frames_still registers fun' first at [] o g =
      frame_later s shapes ended back m.mem fun' first at (stack_top s) s.stub g
  frames_still registers fun' first at (d ∷ ds) o g =
      let behind = behind_return s m.mem fun' at registers in (
        frame_later s shapes ended back m.mem fun' first at d.frame (s.back d.fun d.rest) g.0,
        record { each = λ n need e. still_at (d.first + n) need _ (o.0 n need e) (g.1.each n need e) },
        homes_later s shapes ended same m.mem behind (homes_of s d.fun) (s.numbers d.fun)
            (slots_from (slice_get s.map.frames d.fun) (homes_of s d.fun) d.frame) (Waits s d) d.vars g.2,
        frames_still behind d.fun d.first d.frame ds o.1 g.3,
      )

  locals_still : LocalsFit s ended c.fun c.first c.frame
  locals_still = record {
    each = λ n need e. still_at (c.first + n) need _ (older.callers.0 n need e) (f.calls.2.1.each n need e);
  }

  -- ---- the parts of no object

  table_still : TableFits s.needs s.map out.heap ended s.loaded.mem m.mem
  table_still = subst (λ h. TableFits s.needs s.map h ended s.loaded.mem m.mem) (sym are_ended.heap) (record {
    room = f.table.room;
    before = f.table.before;
    behind = f.table.behind;
    heap = f.table.heap;
    clear = clear_same shapes ended back _ _ f.table.clear;
  })

  heap_still : HeapFits (addresses_of s.map) out.heap ended m.mem
  heap_still = subst (λ h. HeapFits (addresses_of s.map) h ended m.mem) (sym are_ended.heap) (record {
    from = f.heap.from;
    to = f.heap.to;
    zeros = f.heap.zeros;
    untagged = f.heap.untagged;
    clear = clear_same shapes ended back _ _ f.heap.clear;
  })

  -- ---- the caller

  module _ (rest : List TacInstr) (reads : (temp : ℕ) → IsLive s (caller_at c cs rest) temp → Waits s c temp)
      (after : Machine) (b : IsBack s fun c t m after) where
    abbrev behind_it : Registers
    behind_it = behind_return s m.mem fun t.frame (registers_in m)

    abbrev slots : ℕ
    slots = slots_from (slice_get s.map.frames c.fun) (homes_of s c.fun) c.frame

    abbrev Homes_of_it : List Shape → (ℕ → Type 0) → Type 0
    Homes_of_it shapes' live =
        HomesFit (functions_of s) (addresses_of s.map) shapes' m.mem (registers_in after) (homes_of s c.fun)
        (s.numbers c.fun) slots live c.vars

    -- with the registers that are there
    there_now : Homes_of_it shapes (Waits s c)
        × FramesFit s shapes m.mem (registers_in after) c.fun c.first c.frame cs
    there_now =
        calls_kept s shapes m.mem m.mem f.objects.areas f.objects.areas
        0 (λ fun' first at above link g up. same_memory at g.frame.saved m.mem) IsKept behind_it (registers_in after)
        b.kept c.fun c.first c.frame (omega arith) cs (functions_of s) (addresses_of s.map) (Waits s c) c.vars keeps.0
        (kept_only s cs keeps.1) f.calls.2.2 f.calls.2.3

    homes_still : Homes_of_it ended (IsLive s (caller_at c cs rest))
    homes_still =
        let h = homes_later s shapes ended same m.mem (registers_in after) (homes_of s c.fun) (s.numbers c.fun)
        slots (Waits s c) c.vars there_now.0 in
        record {
          one_each = h.one_each;
          kept = λ k home l n e. h.kept k home (reads k l) n e;
          numbered = λ k n l e. h.numbered k n (reads k l) e;
          known = λ k l. h.known k (reads k l);
        }

    leaves : Fits s (Some (caller_at c cs rest)) (returned s lengths c t) after
    leaves =
        let mem = b.memory in
        record {
          registers = b.registers;
          objects = rw mem (ends_fit s (functions_of s) (addresses_of s.map) m.mem lengths t.mem t.first f.objects);
          globals = globals_still;
          text = rw mem f.text;
          table = rw mem table_still;
          heap = rw mem heap_still;
          stack = record {
            stack = b.stack;
            table = b.table ∙ f.stack.table;
            clear = returns_clear_law s (callee_at fun c cs left) t m f lengths long;
          };
          calls = rw mem (
            locals_still,
            homes_still,
            frames_still (registers_in after) c.fun c.first c.frame cs
                older.callers.1 there_now.1,
          );
          places = rw mem f.places;
        }

pub leaves_fit_law : LeavesFit
leaves_fit_law s fun c cs left t m f keeps older lengths long rest reads after b =
    leaves s fun c cs left t m f keeps older lengths long rest reads after b
