-- Code that was loaded as the text stands there at each point of the run.
use Rattle.std.proofs.Common.{◌≡◌, ℕ, ◌+◌, ◌*◌, ◌≤◌, false, List, Option, Some, ap, ◌∙◌, arith}
use Rattle.std.specs.Prelude.{slice_get}
use Rattle.std.proofs.lemmas.Option.{slice_get_within}
use Rattle.ck_base.specs.Runs.{Ends}
use Rattle.cap_ops.specs.declared.access.Cause.{Cause}
use Rattle.rv_instr.specs.declared.instr.Instr.{Instr}
use Rattle.tag_mem.proofs.Laws.{number_at-same_bytes}
use Rattle.cap_machine.specs.declared.end.End.TheVariants.{Trap}
use Rattle.cap_machine.specs.declared.machine.Machine.{Machine}
use Rattle.cap_machine.specs.Rows.{row, trap}
use Rattle.cap_machine.specs.Step.{act, act_of, is_call}
use Rattle.cheri_c_sem.specs.Modes.{Store}
use Rattle.cheri_c_sem.specs.Steps.{State}
use Rattle.place_inject.specs.Frames.{Setting, Point}
use Rattle.place_inject.specs.Fits.{Fits}
use Rattle.place_inject.proofs.StoresKeep.{scratch_keeps_law}
use Rattle.select_runs.specs.Acts.{Laid, HasText, IsThere, Holds, place}
use Rattle.select_runs.specs.Operands.{ground_of, IsText, IsAtPoint}
use Rattle.select_runs.proofs.Acts.{act_on_row, counter_place, fetched_here}

module _ (s : Setting) (code : List Instr) (x : IsText s code) where
  pub laid : Laid (ground_of s code)
  laid =
      let room = x.room in
      record {
        exact = x.legal.text_exact;
        aligned = x.legal.text_aligned;
        below = x.legal.in_range.1;
        room = omega arith;
        in_range = x.in_range;
      }

  pub text_there : (p : Option Point) (t : State Store) (m : Machine) → Fits s p t m → HasText (ground_of s code) m.mem
  text_there p t m f k i has =
      let within = slice_get_within code k i has in
      let room = x.room in
      let aligned = x.legal.text_aligned in
      number_at-same_bytes s.loaded.mem m.mem (s.map.text.0 + 4 * k) 4 x.areas f.objects.areas (omega arith)
      (omega arith)
      (λ j lt. f.text.bytes (s.map.text.0 + 4 * k + j) (omega arith) (omega arith))
      ∙ x.words k i has

  pub there : (p : Point) (at : ℕ) (t : State Store) (m : Machine) → IsAtPoint s code p at t m
      → IsThere (ground_of s code) m at
  there p at t m h = record {
    counter = h.counter;
    registers = h.fits.registers;
    text = text_there (Some p) t m h.fits;
  }

  -- a stretch that changed a scratch register alone keeps the point
  pub scratched : (p : Point) (at n end scratch r : ℕ) (c : _) (t : State Store) (m : Machine)
      → IsAtPoint s code p at t m
      → 28 ≤ scratch → (h : Holds (ground_of s code) m n end scratch r c) → IsAtPoint s code p end t h.to
  scratched p at n end scratch r c t m point above h = record {
    fits = scratch_keeps_law s x.usable (Some p) t m point.fits h.to h.registers h.memory
        (λ q l. h.others q (λ e. absurd (omega (arith, e, l, above))));
    counter = h.counter;
  }

-- a word that traps
pub traps_at : (s : Setting) (code : List Instr) (x : IsText s code) (p : Point) (at : ℕ) (t : State Store)
    (m : Machine)
    → IsAtPoint s code p at t m → (i : Instr) → slice_get code at ≡ Some i → is_call i ≡ false → (c : Cause)
    → row m i ≡ trap m c
    → act m ≡ Ends (Trap c (place (ground_of s code) at))
traps_at s code x p at t m point i has plain c does =
    let h = there s code x p at t m point in
    fetched_here (ground_of s code) (laid s code x) m at i h.counter h.text has ∙ act_on_row m i plain ∙ ap act_of does
    ∙ ap (λ k. Ends (Trap c k)) (counter_place (ground_of s code) m at h.counter)
