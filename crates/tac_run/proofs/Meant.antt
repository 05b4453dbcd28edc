-- A run is what its code means.
use mathlib.Core.Path.{fun_ext}
use Rattle.std.proofs.Common.{◌≡◌, ℕ, ◌+◌, ◌-◌, ◌^◌, ◌<◌, false, List, [], Option, Some, None, refl, sym, ap, ◌∙◌}
use Rattle.std.proofs.Common.{arith}
use Rattle.std.specs.Prelude.{slice_get}
use Rattle.ck_base.specs.Calls.{Seen, IsRun, Counted}
use Rattle.ck_base.specs.RunLaws.{HasOwnEndings, Running-first, run_ended}
use Rattle.ck_base.specs.Runs.{Act, Ends, run, outcome, ending_alone}
use Rattle.ck_base.specs.World.{World}
use Rattle.c_tree.specs.declared.typed.Typed.{Typed}
use Rattle.c_tree.specs.declared.typed.VarDef.{VarDef}
use Rattle.obj_mem.specs.declared.ending.Ending.{Ending}
use Rattle.obj_mem.specs.declared.ending.Ending.TheVariants as ending
use Rattle.obj_mem.specs.declared.map.Map.{Map}
use Rattle.obj_mem.specs.Values.{Value}
use Rattle.cheri_c_sem.specs.Calls.{add_locals, start}
use Rattle.cheri_c_sem.specs.Modes.{Store, operations, placed_plan}
use Rattle.cheri_c_sem.specs.Operations.{Operations}
use Rattle.cheri_c_sem.specs.Programs.{lengths_of, program_tree}
use Rattle.cheri_c_sem.specs.Steps.{outcome_of}
use Rattle.tac_ir.specs.Meaning.{name_of, kinds_of, entry_temps, first_entry, first_state, fate, tac}
use Rattle.tac_ir.specs.declared.code.Tac.{Tac}
use Rattle.tac_steps.specs.Machine.{Caller, Moment, act, first_moment, limits}
use Rattle.tac_steps.specs.Weights.{acts_left}
use Rattle.tac_steps.proofs.Runs.{runs_are_meant_law, same_run}
use Rattle.tac_run.specs.Lists.{vars_of}
use Rattle.tac_run.specs.Ready.{objects_by}
use Rattle.tac_run.proofs.Calling.{objects_at}

module _ (t : Tac) (p : Typed) (m : Map) (turns : ℕ) where
  abbrev ops : Operations Store
  ops = operations (placed_plan m)

  -- ---- there is no room for the frame of `main`

  abbrev stops : Unit {0} → Act (Unit {0}) Ending
  stops _ = Ends (ending.Stack (name_of (slice_get t.funs p.main)))

  stops_own : HasOwnEndings limits stops
  stops_own = record {
    read = λ _ h. cc;
    write = λ _ h. cc;
    apart = λ h. cc;
    steps_read = λ h. cc;
    steps_write = λ h. cc;
  }

  sinks : (w : World) → ops.enter p.main ops.stack_top ≡ None →
      outcome limits stops ending_alone tt 1 w ≡ tac t p m w turns
  unfolding run fate program_tree
  sinks w e = sym (ap (λ o. outcome_of w (first_entry ops w t p (objects_by p) turns o p.main
      (first_state ops w t p (objects_by p) (program_tree p) turns))) e)

  pub sunk : (before : Seen) → before.source_faults < 2 ^ 64 - 1 → before.sink_faults < 2 ^ 64 - 1 →
      ops.enter p.main ops.stack_top ≡ None →
      IsRun (λ w. tac t p m w turns) before before (ending.Stack (name_of (slice_get t.funs p.main))) ×
      Counted limits before before (ending.Stack (name_of (slice_get t.funs p.main)))
  sunk before source_room sink_room e =
      let both = run_ended limits stops stops_own ending_alone 1 tt before before before tt tt 0
      (ending.Stack (name_of (slice_get t.funs p.main))) source_room sink_room
      (Running-first limits stops 1 tt before) (refl, refl, refl) in (
        same_run (outcome limits stops ending_alone tt 1) (λ w. tac t p m w turns) before before
            (ending.Stack (name_of (slice_get t.funs p.main))) (λ w. sinks w e) both.0,
        both.1,
      )

  -- ---- `main` runs in its frame

  main_enters : (address : ℕ) → ops.enter p.main ops.stack_top ≡ Some address →
      ops.enter (program_tree p).main ops.stack_top ≡ Some address
  unfolding program_tree
  main_enters address e = e

  abbrev first : ℕ → Moment Store
  first address = first_moment ops t (objects_by p) address (program_tree p) turns

  pub means : (address : ℕ) → ops.enter p.main ops.stack_top ≡ Some address →
      outcome limits (act ops t (objects_by p) p) ending_alone (first address) (acts_left t (first address) + 1)
      ≡ (λ w. tac t p m w turns)
  means address room =
      fun_ext (λ w. runs_are_meant_law ops t p (objects_by p) (program_tree p) address w turns
      (acts_left t (first address) + 1) (main_enters address room) (omega arith))

  -- the moment with which it begins, from its parts
  abbrev begun : List Caller → List (Option Value) → ℕ → Store → ℕ → Moment Store
  begun callers vars objects mem address = record {
    fun = p.main;
    at = 0;
    turned = false;
    callers = callers;
    now = record { vars = vars; first = objects; mem = mem; frame = address; left = turns };
  }

  pub first_is : (address objects : ℕ) (callers : List Caller) (values : List Value) (vars : List (Option Value))
      (s mem : Store) (fs : List VarDef) → callers ≡ [] → values ≡ [] →
      vars ≡ entry_temps (kinds_of (slice_get t.funs p.main)) values → objects ≡ ops.count s →
      mem ≡ add_locals ops s address p.main 0 (lengths_of p fs) → fs ≡ vars_of (slice_get p.funs p.main) →
      s ≡ start ops (program_tree p) → begun callers vars objects mem address ≡ first address
  unfolding program_tree
  first_is address objects callers values vars s mem fs none empty temps count locals are started =
      let kinds = kinds_of (slice_get t.funs p.main) in
      let at = start ops (program_tree p) in
      ap (λ cs. begun cs vars objects mem address) none
      ∙ (ap (λ vs. begun [] vs objects mem address) (temps ∙ ap (entry_temps kinds) empty)
      ∙ (ap (λ n. begun [] (entry_temps kinds []) n mem address) (count ∙ ap ops.count started)
      ∙ ap (λ x. begun [] (entry_temps kinds []) (ops.count at) x address)
      (locals ∙ (ap (λ z. add_locals ops z address p.main 0 (lengths_of p fs)) started
      ∙ ap (λ ls. add_locals ops at address p.main 0 ls) (ap (lengths_of p) are ∙ sym (objects_at p p.main))))))
