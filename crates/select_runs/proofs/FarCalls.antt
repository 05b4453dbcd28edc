-- Calls by the sentry that the table has of a function.
use Rattle.std.proofs.Common.{◌≡◌, ℕ, ◌+◌, ◌*◌, ◌<◌, ◌≤◌, List, ◌++◌, length, Option, Some, None, refl}
use Rattle.std.proofs.Common.{sym, ◌∙◌, subst, arith}
use Rattle.std.specs.Prelude.{slice_get}
use Rattle.std.proofs.lemmas.Option.{slice_get_within}
use Rattle.cap_ops.specs.declared.capability.Cap.{Cap}
use Rattle.rv_instr.specs.declared.instr.Instr.{Instr}
use Rattle.rv_instr.specs.declared.instr.Instr.TheVariants.{CapGet}
use Rattle.rv_instr.specs.declared.ops.CapGetOp.TheVariants.{Cmove}
use Rattle.cap_machine.specs.declared.machine.Machine.{Machine}
use Rattle.cheri_c_sem.specs.Modes.{Store, frame_within}
use Rattle.cheri_c_sem.specs.Steps.{State}
use Rattle.obj_mem.specs.declared.map.Frame.{Frame}
use Rattle.obj_mem.specs.Objects.{base_in}
use Rattle.obj_mem.specs.Table.{addresses_of, function_entry}
use Rattle.obj_mem.specs.Values.{Fun, capability_of}
use Rattle.tac_ir.specs.Temps.{now}
use Rattle.tac_ir.specs.declared.code.TacInstr.TheVariants as instr
use Rattle.place_inject.specs.Fits.{Fits}
use Rattle.place_inject.specs.Frames.{Setting, Point, functions_of}
use Rattle.place_inject.specs.Tables.{TableIsThere}
use Rattle.place_inject.proofs.StoresKeep.{scratch_keeps_law}
use Rattle.select_words.specs.Calling.{FindsEntry}
use Rattle.select_words.specs.Standing.{HasAt}
use Rattle.select_runs.specs.Acts.{Ground, IsThere, Holds}
use Rattle.select_runs.specs.Calling.{FarCallsRun, FarFirstIsEntered}
use Rattle.select_runs.specs.Operands.{ground_of, IsText}
use Rattle.select_runs.specs.Results.{before}
use Rattle.select_runs.proofs.Acts.{has_front, has_back, still}
use Rattle.select_runs.proofs.Calling.{first_whole}
use Rattle.select_runs.proofs.Locals.{framed}
use Rattle.select_runs.proofs.Points.{laid, there, text_there}
use Rattle.select_runs.proofs.Sentries.{comes_to_jump, jump_word, sentry_goes}
use Rattle.select_runs.proofs.Table.{entry_few, entry_holds}
use Rattle.select_runs.proofs.Working.{got}

-- a function with a frame is one of those that the table has
has_entry : (s : Setting) (code : List Instr) → IsText s code → (f : ℕ) (frame : Frame)
    → slice_get s.map.frames f ≡ Some frame → f < functions_of s
has_entry s code x f frame is =
    let need = framed s.needs.functions s.map.frames f frame x.legal.frames is in
    slice_get_within s.needs.functions f need.0 need.1

finds_few : (entry : ℕ) (finds : List Instr) → FindsEntry entry finds → length finds ≤ 3
finds_few entry finds form = subst (λ y. length y ≤ 3) (sym form.1) (entry_few (16 * entry) 31)

module _ (s : Setting) (code : List Instr) (x : IsText s code) (loaded : TableIsThere s) (t : State Store) where
  abbrev g : Ground
  g = ground_of s code

  abbrev sentry : ℕ → Cap
  sentry f = capability_of (addresses_of s.map) (base_in t.mem.memory.shapes) (Fun f)

  found : (p : Option Point) (m : Machine) → Fits s p t m → (f : ℕ) → f < functions_of s → (finds : List Instr)
      → FindsEntry (function_entry s.needs f) finds → (at : ℕ) → IsThere g m at → HasAt code at finds
      → Holds g m (length finds) (at + length finds) 31 31 (sentry f)
  found p m fits f known finds form at here has =
      let room = fits.table.room in
      subst (λ y. Holds g m (length y) (at + length y) 31 31 (sentry f)) (sym form.1)
      (entry_holds s code x loaded p t m fits (16 * function_entry s.needs f) (Fun f) form.0
      (omega (arith, room, known)) (λ u r from z place read is_at. read.functions f known is_at) 31 (omega arith)
      (omega arith) m at here refl (fits.stack.table ∙ loaded.table) (subst (HasAt code at) form.1 has))

pub far_calls_run_law : FarCallsRun
far_calls_run_law s code x stack loaded w p running to fun args rest body at t m point words64 b words form has leads
    may =
    let i = instr.Call to fun args in
    let here = before running i rest in
    let finds = form.finds in
    let known = has_entry s code x fun b.frame b.is_frame.is in
    let front = has_front code at finds (form.passes ++ jump_word) (subst (HasAt code at) form.are has) in
    let holds = found s code x loaded t (Some here) m point.fits fun known finds form.found at
    (there s code x here at t m point) front in
    let finding_few = finds_few (function_entry s.needs fun) finds form.found in
    record {
      means = λ k. refl;
      does = (comes_to_jump s code x stack running i refl to refl args rest at t m words64 (λ temp h. now h) point words
          finds form.passes form.are has may form.passed (0 + length finds) (omega (arith, finding_few))
          (sentry s code x loaded t fun)
          (got s code x here t m m 0 at refl point 31 31 (length finds) (sentry s code x loaded t fun) (omega arith)
          holds)).enters fun known refl (record { body = body; begins = b; leads = leads });
    }

pub far_first_is_entered_law : FarFirstIsEntered
far_first_is_entered_law s code x stack loaded fun at body t m fits counter words64 b finds form has leads stub =
    let g = ground_of s code in
    let known = has_entry s code x fun b.frame b.is_frame.is in
    let here : IsThere g m at = record {
      counter = counter;
      registers = fits.registers;
      text = text_there s code x None t m fits;
    } in
    let h = found s code x loaded t None m fits fun known finds form at here (has_front code at finds jump_word has) in
    let mid : ℕ = at + length finds in
    let kept = scratch_keeps_law s x.usable None t m fits h.to h.registers h.memory
    (λ q l. h.others q (λ e. absurd (omega (arith, e, l)))) in
    let n_there = still g (laid s code x) m mid at 31 31 (length finds) (sentry s code x loaded t fun) here h in
    first_whole s code x stack fun body t m words64 b (length finds) h.to h.leads kept mid n_there
    (sentry_goes s code x None t h.to kept mid n_there (has_back code at finds jump_word has).0 fun known h.holds
    b.entry (CapGet Cmove 28 2) b.has.0 leads) stub (finds_few (function_entry s.needs fun) finds form)
    (frame_within s.map.stack.0 t.frame (Some b.frame)) refl
