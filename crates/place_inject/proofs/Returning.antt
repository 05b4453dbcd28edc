-- A return clears the stack below the caller's frame.
use Rattle.std.proofs.Common.{◌≡◌, ◌⊎◌, ℕ, ◌+◌, ◌-◌, ◌<◌, ◌≤◌, List, [], ◌∷◌, length, arith, Some, inl, inr}
use Rattle.std.specs.Prelude.{slice_get}
use Rattle.cap_machine.specs.declared.machine.Machine.{Machine}
use Rattle.obj_mem.specs.Legal.{Apart}
use Rattle.obj_mem.specs.Objects.{Shape}
use Rattle.cheri_c_sem.specs.Calls.{end_locals}
use Rattle.cheri_c_sem.specs.Modes.{Store, operations, placed_plan}
use Rattle.cheri_c_sem.specs.Steps.{State}
use Rattle.placement.specs.Memories.{IsClear}
use Rattle.placement.proofs.Ended.{Ended, ends}
use Rattle.placement.proofs.Shapes.{apart_as}
use Rattle.tac_ir.specs.Meaning.{Caller}
use Rattle.place_inject.specs.Frames.{Setting, Point, locals_by, stack_top, FrameFits, FramesFit}
use Rattle.place_inject.specs.Fits.{Fits, registers_in}
use Rattle.place_inject.specs.Returns.{above_newest, ReturnsClear}

module _ (s : Setting) (p : Point) (t : State Store) (m : Machine) (f : Fits s (Some p) t m) (lengths : List ℕ)
    (long : length lengths ≡ length (locals_by (slice_get s.needs.functions p.running.fun))) where
  abbrev ended : List Shape
  ended = (end_locals (operations (placed_plan s.map)) t.mem t.first lengths).memory.shapes

  is_ended : Ended t.first (length lengths) t.mem.memory.shapes ended
  is_ended = (ends (placed_plan s.map) lengths t.mem t.first).shapes

  module _ (above link : ℕ)
      (g : FrameFits s t.mem.memory.shapes m.mem p.running.fun t.first t.frame above link) where
    not_own : (i base owned : ℕ) → (i < t.first) ⊎ (t.first + length lengths ≤ i)
        → Apart base owned s.map.stack.0 (above - s.map.stack.0)
        ⊎ ((t.first ≤ i) × (i < t.first + length (locals_by (slice_get s.needs.functions p.running.fun))))
        → Apart base owned s.map.stack.0 (above - s.map.stack.0)
    not_own i base owned other (inl apart) = apart
    not_own i base owned (inl before) (inr own) = let from = own.0 in absurd (omega (arith, before, from))
    not_own i base owned (inr behind) (inr own) = let to = own.1 in absurd (omega (arith, behind, to, long))

    all_clear : IsClear ended s.map.stack.0 (above - s.map.stack.0)
    all_clear = record {
      clear = λ i h e x.
          let y = is_ended.back i h e in
          let k = y.0 in
          let below = f.stack.clear.clear i k y.1 (y.2.stayed x) in
          let apart = not_own i k.base k.owned (y.3 x) (g.alone.others i k y.1 (y.2.stayed x) below) in
          apart_as k.base k.owned s.map.stack.0 (above - s.map.stack.0) h.base h.owned y.2.base y.2.owned apart;
    }

  cleared : (cs : List Caller) → FramesFit s t.mem.memory.shapes m.mem (registers_in m) p.running.fun t.first t.frame cs
      → IsClear ended s.map.stack.0 (above_newest s cs - s.map.stack.0)
  cleared [] g = all_clear (stack_top s) s.stub g
  cleared (c ∷ cs) g = all_clear c.frame (s.back c.fun c.rest) g.0

pub returns_clear_law : ReturnsClear
returns_clear_law s p t m f lengths long = cleared s p t m f lengths long p.running.callers f.calls.2
