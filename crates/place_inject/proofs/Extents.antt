-- Extents are apart.
use Rattle.std.proofs.Common.{◌≡◌, ℕ, ◌+◌, ◌-◌, List, [], ◌∷◌, sym, ◌∙◌, subst, arith, Option, Some, None}
use Rattle.std.proofs.lemmas.Option.{same_Some}
use Rattle.cap_machine.specs.declared.machine.Machine.{Machine}
use Rattle.obj_mem.specs.declared.map.Frame.{Frame}
use Rattle.obj_mem.specs.Legal.{Apart}
use Rattle.obj_mem.specs.Objects.{Shape}
use Rattle.cheri_c_sem.specs.Modes.{Store}
use Rattle.cheri_c_sem.specs.Steps.{State}
use Rattle.placement.specs.Memories.{IsClear}
use Rattle.tag_mem.specs.Areas.{Area}
use Rattle.tac_ir.specs.Meaning.{Caller}
use Rattle.place_inject.specs.Frames.{Setting, Registers, Point, behind_return, stack_top, FrameFits, FramesFit}
use Rattle.place_inject.specs.Fits.{CallsFit, registers_in}
use Rattle.place_inject.specs.Disjoint.{SavedIsClear, AllSavedAreClear, FramesAreClear, ExtentsAreApartWhereFits}

module _ (s : Setting) (shapes : List Shape) (memory : List Area) where
  saved : (fun first at above link : ℕ) → FrameFits s shapes memory fun first at above link
      → SavedIsClear s shapes fun at
  saved fun first at above link f g e = subst (λ (x : Frame). IsClear shapes at x.saved) (same_Some f.frame g
      (sym f.is ∙ e)) f.clear

  all_saved : (registers : Registers) (fun first at : ℕ) (cs : List Caller)
      → FramesFit s shapes memory registers fun first at cs → AllSavedAreClear s shapes fun at cs
  all_saved registers fun first at [] f = saved fun first at (stack_top s) s.stub f
  all_saved registers fun first at (c ∷ cs) f = (
    saved fun first at c.frame (s.back c.fun c.rest) f.0,
    all_saved
        (behind_return s memory fun at registers) c.fun c.first c.frame cs f.3,
  )

frames_clear : (s : Setting) (p : Option Point) (t : State Store) (m : Machine) → CallsFit s p t m
    → FramesAreClear s t.mem.memory.shapes p t
frames_clear s None t m c = tt
frames_clear s (Some p) t m c = all_saved s t.mem.memory.shapes m.mem
    (registers_in m) p.running.fun t.first t.frame p.running.callers c.2

pub extents_apart_law : ExtentsAreApartWhereFits
extents_apart_law s p t m f = record {
  objects = f.objects.spread.apart;
  text = λ k g e.
      let long : s.map.text.0 + s.map.text.1 - s.map.text.0 ≡ s.map.text.1 = omega arith in
      subst (λ n. Apart g.base g.owned s.map.text.0 n) long (f.objects.spread.off_text k g e);
  table = f.table.clear;
  frames = frames_clear s p t m f.calls;
}
