-- Runs of the machine, act by act, are those of the meaning.
use mathlib.Core.Path.{fun_ext}
use Rattle.std.proofs.Common.{◌≡◌, ℕ, zero, suc, ◌+◌, ◌-◌, ◌^◌, ◌<◌, ◌≤◌, Bool, true, false, List, length, Some, None}
use Rattle.std.proofs.Common.{refl, sym, ◌∙◌, ap, subst, arith}
use Rattle.std.specs.Prelude.{slice_get, if◌then◌else◌}
use Rattle.ck_base.specs.Calls.{Seen, Acted, IsRun, Counted}
use Rattle.ck_base.specs.RunLaws.{Running, Running-first, Running-acted, run_ended, run-suc}
use Rattle.ck_base.specs.Runs.{Act, Goes, Puts, Reads, Ends, Stopped, with_put, with_read, act_in, run, outcome}
use Rattle.ck_base.specs.Runs.{ending_alone}
use Rattle.ck_base.specs.World.{World, Done, Outcome, nothing_done, fails_after}
use Rattle.c_tree.specs.declared.typed.Typed.{Typed}
use Rattle.obj_mem.specs.declared.ending.Ending.{Ending}
use Rattle.obj_mem.specs.declared.ending.Ending.TheVariants as ending
use Rattle.cheri_c_sem.specs.Operations.{Operations}
use Rattle.cheri_c_sem.specs.Steps.{Fate, outcome_of}
use Rattle.cheri_c_sem.specs.Tree.{Program}
use Rattle.tac_ir.specs.Meaning.{fate, first_entry, first_state}
use Rattle.tac_ir.specs.declared.code.Tac.{Tac}
use Rattle.tac_steps.specs.Laws.{RunsAreMeant}
use Rattle.tac_steps.specs.Machine.{Moment, act, first_moment, limits}
use Rattle.tac_steps.specs.Weights.{acts_left}
use Rattle.tac_steps.proofs.Meant.{meant_of, acted, kept}
use Rattle.tac_steps.proofs.Fewer.{Falls, falls, fewer, own_endings}

-- where a run stopped, as what it came to
abbrev fate_of : {S : Type 0} → Stopped S Ending → Fate
fate_of r = record { done = r.done; ending = r.ending }

module _ {M : Type 0} (ops : Operations M) (t : Tac) (p : Typed) (objects : ℕ → List ℕ) where
  abbrev next : World → ℕ → Moment M → Done → Stopped (Moment M) Ending
  next w n = run limits (act ops t objects p) w n

  put_meant : (w : World) (fails : Bool) (n b : ℕ) (m m' : Moment M) (d : Done) →
      fate_of (next w n m' (with_put d b)) ≡ meant_of ops w t p objects m' (with_put d b) →
      fate_of (if fails then record { state = m; done = d; ending = ending.WriteFault } else next w n m' (with_put d b))
      ≡ (if fails then record { done = d; ending = ending.WriteFault }
      else meant_of ops w t p objects m' (with_put d b))
  put_meant w true n b m m' d h = refl
  put_meant w false n b m m' d h = h

  read_meant : (w : World) (fails : Bool) (n : ℕ) (m m' : Moment M) (d : Done) →
      fate_of (next w n m' (with_read d)) ≡ meant_of ops w t p objects m' (with_read d) →
      fate_of (if fails then record { state = m; done = d; ending = ending.ReadFault } else next w n m' (with_read d))
      ≡ (if fails then record { done = d; ending = ending.ReadFault }
      else meant_of ops w t p objects m' (with_read d))
  read_meant w true n m m' d h = refl
  read_meant w false n m m' d h = h

  -- an act, and then a run of enough acts
  act_meant : (w : World) (n k : ℕ) (m : Moment M) (d : Done) (a : Act (Moment M) Ending) → k ≤ n →
      Falls ops t p objects k a →
      ((m' : Moment M) (d' : Done) → acts_left t m' < n → fate_of (next w n m' d') ≡ meant_of ops w t p objects m' d') →
      fate_of (act_in limits w m d (next w n) a) ≡ acted ops w t p objects d a
  act_meant w n k m d (Goes m') le f h = h m' d (omega arith)
  act_meant w n k m d (Puts b m') le f h =
      put_meant w (fails_after w.failing_put (length d.output)) n b m m' d (h m' (with_put d b) (omega arith))
  act_meant w n k m d (Reads to) le f h =
      let byte = slice_get w.bytes d.reads in
      let less = f byte in
      read_meant w (fails_after w.failing_read d.reads) n m (to byte) d (h (to byte) (with_read d) (omega arith))
  act_meant w n k m d (Ends e) le f h = refl

  pub run_meant : (w : World) (n : ℕ) (m : Moment M) (d : Done) → acts_left t m < n →
      fate_of (next w n m d) ≡ meant_of ops w t p objects m d
  run_meant w zero m d h = absurd (omega arith)
  run_meant w (suc n) m d h =
      ap fate_of (run-suc limits (act ops t objects p) w n m d (act ops t objects p m) refl)
      ∙ (act_meant w n (acts_left t m) m d (act ops t objects p m) (omega arith) (falls ops t p objects m)
      (λ m' d' e. run_meant w n m' d' e) ∙ sym (kept ops w t p objects m d))

  module _ (program : Program) (turns address : ℕ) (room : ops.enter program.main ops.stack_top ≡ Some address) where
    abbrev pub first : Moment M
    first = first_moment ops t objects address program turns

    first_meant : (w : World) → meant_of ops w t p objects first nothing_done ≡ fate ops w t p objects program turns
    unfolding fate
    first_meant w = sym (ap (λ o. first_entry ops w t p objects turns o program.main
        (first_state ops w t p objects program turns)) room)

    pub outcome_meant : (w : World) (n : ℕ) → acts_left t first < n →
        outcome limits (act ops t objects p) ending_alone first n w
        ≡ outcome_of w (fate ops w t p objects program turns)
    outcome_meant w n h = ap (outcome_of w) (run_meant w n first nothing_done h ∙ first_meant w)

pub runs_are_meant_law : RunsAreMeant
runs_are_meant_law ops t p objects program address w turns n room h =
    outcome_meant ops t p objects program turns address room w n h

-- ---- runs that are done act by act

pub same_run : (a b : World → Outcome Ending) (before after : Seen) (e : Ending) → ((w : World) → a w ≡ b w) →
    IsRun a before after e → IsRun b before after e
same_run a b before after e h r = subst (λ o. IsRun o before after e) (fun_ext h) r

module _ {M : Type 0} (ops : Operations M) (t : Tac) (p : Typed) (objects : ℕ → List ℕ) (start : Moment M) where
  -- more acts than are left of a run
  abbrev pub enough : ℕ
  enough = acts_left t start + 1

  -- a run that goes on
  abbrev pub Lasts : Seen → Seen → Moment M → Type 0
  Lasts before now m = (k : ℕ) × (acts_left t m < k) × Running limits (act ops t objects p) enough start before now m k

  pub begins : (before : Seen) → Lasts before before start
  begins before = (enough, omega arith, Running-first limits (act ops t objects p) enough start before)

  pub goes_on : {before now next : Seen} {m m' : Moment M} → Lasts before now m →
      Acted limits (act ops t objects p m) now next m m' None → Lasts before next m'
  goes_on (zero, few, running) was = absurd (omega arith)
  goes_on (suc k, few, running) was =
      let less = fewer ops t p objects _ _ _ _ was in
      (k, omega arith, Running-acted limits (act ops t objects p) _ _ _ _ _ _ _ k running was)

  pub comes_to_end : {before now next : Seen} {m : Moment M} {e : Ending} (m' : Moment M) →
      before.source_faults < 2 ^ 64 - 1 → before.sink_faults < 2 ^ 64 - 1 → Lasts before now m →
      Acted limits (act ops t objects p m) now next m m' (Some e) →
      IsRun (outcome limits (act ops t objects p) ending_alone start enough) before next e ×
      Counted limits before next e
  comes_to_end m' source_room sink_room (zero, few, running) was = absurd (omega arith)
  comes_to_end m' source_room sink_room (suc k, few, running) was =
      run_ended limits (act ops t objects p) (own_endings ops t p objects) ending_alone _ _ _ _ _ _ _ k _ source_room
      sink_room running was
