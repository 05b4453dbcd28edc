-- A run from the moment with which code begins, under the map of its memory.
use Rattle.std.proofs.Common.{◌≡◌, ℕ, ◌+◌, ◌-◌, ◌^◌, ◌<◌, true, Some, None, sym, ap, ◌∙◌, subst}
use Rattle.std.specs.Prelude.{slice_get}
use Rattle.ck_base.specs.Calls.{Seen, IsRun}
use Rattle.ck_base.specs.Runs.{outcome, ending_alone}
use Rattle.ck_base.specs.World.{World, Outcome}
use Rattle.ck_base.specs.declared.positions.Pos.{Pos}
use Rattle.c_tree.specs.declared.typed.Typed.{Typed}
use Rattle.obj_mem.specs.declared.ending.Ending.{Ending}
use Rattle.obj_mem.specs.declared.ending.Ending.TheVariants as ending
use Rattle.obj_mem.specs.declared.map.Map.{Map}
use Rattle.cheri_c_sem.specs.Modes.{Store, operations, placed_plan}
use Rattle.cheri_c_sem.specs.Operations.{Operations}
use Rattle.cheri_c_sem.specs.Programs.{program_tree}
use Rattle.tac_ir.specs.Meaning.{name_of, tac}
use Rattle.tac_ir.specs.WellFormed.{is_well_formed}
use Rattle.tac_ir.specs.declared.code.Tac.{Tac}
use Rattle.tac_steps.specs.Machine.{Moment, act, first_moment, limits}
use Rattle.tac_steps.specs.Weights.{acts_left}
use Rattle.tac_run.specs.Moments.{IsSound}
use Rattle.tac_run.specs.Ready.{IsReady, objects_by}
use Rattle.stopped_runs.specs.Stopping.{StoppedShort}
use Rattle.tac_run.proofs.Meant.{means, sunk}
use Rattle.tac_run.proofs.Starts.{first_sound}

module _ (t : Tac) (p : Typed) (turns address : ℕ) (m : Map) (x : Moment Store) where
  abbrev ops : Operations Store
  ops = operations (placed_plan m)

  module _ (enters : ops.enter p.main ops.stack_top ≡ Some address)
      (first : x ≡ first_moment ops t (objects_by p) address (program_tree p) turns) where
    pub begins_sound : IsReady p m → is_well_formed t p ≡ true → IsSound p x
    begins_sound ready formed = subst (IsSound p) (sym first) (first_sound p m ready t formed address turns enters)

    abbrev run_under : Map → World → Outcome Ending
    run_under k =
        outcome limits (act (operations (placed_plan k)) t (objects_by p) p) ending_alone x (acts_left t x + 1)

    abbrev run_from : Moment Store → World → Outcome Ending
    run_from y = outcome limits (act ops t (objects_by p) p) ending_alone y (acts_left t y + 1)

    abbrev meant_under : Map → World → Outcome Ending
    meant_under n = λ w. tac t p n w turns

    means_under : (k n : Map) → k ≡ m → m ≡ n → run_under k ≡ meant_under n
    means_under k n held same =
        ap run_under held ∙ (ap run_from first ∙ (means t p m turns address enters ∙ ap meant_under same))

    pub runs : (k n : Map) (before after : Seen) (e : Ending) → k ≡ m → m ≡ n → IsRun (run_under k) before after e →
        IsRun (λ w. tac t p n w turns) before after e
    runs k n before after e held same = subst (λ o. IsRun o before after e) (means_under k n held same)

    pub shortened : (k n : Map) (before after : Seen) → k ≡ m → m ≡ n → StoppedShort (run_under k) before after →
        StoppedShort (λ w. tac t p n w turns) before after
    shortened k n before after held same = subst (λ o. StoppedShort o before after) (means_under k n held same)

-- there is no room for the frame of `main`
pub sinks : (t : Tac) (p : Typed) (turns : ℕ) (m n : Map) (before : Seen) (name : Pos) → m ≡ n →
    name ≡ name_of (slice_get t.funs p.main) → before.source_faults < 2 ^ 64 - 1 → before.sink_faults < 2 ^ 64 - 1 →
    (operations (placed_plan m)).enter p.main (operations (placed_plan m)).stack_top ≡ None →
    IsRun (λ w. tac t p n w turns) before before (ending.Stack name)
sinks t p turns m n before name same is source_room sink_room e =
    subst (λ z. IsRun (λ w. tac t p n w turns) before before (ending.Stack z)) (sym is)
    (subst (λ z. IsRun (λ w. tac t p z w turns) before before (ending.Stack (name_of (slice_get t.funs p.main)))) same
    (sunk t p m turns before source_room sink_room e).0)
