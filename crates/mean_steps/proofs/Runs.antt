-- Runs of the machine are those of the meaning.
use mathlib.Core.Path.{fun_ext}
use Rattle.std.proofs.Common.{◌≡◌, ℕ, zero, suc, ◌+◌, ◌-◌, ◌^◌, ◌<◌, ◌≤◌, Bool, true, false, List, length, Some, None}
use Rattle.std.proofs.Common.{refl, sym, ◌∙◌, ap, subst, arith}
use Rattle.std.specs.Prelude.{slice_get, if◌then◌else◌}
use Rattle.ck_base.specs.Calls.{Seen, Acted, IsRun, Counted}
use Rattle.ck_base.specs.RunLaws.{Running, Running-first, Running-acted, run_ended, run-suc}
use Rattle.ck_base.specs.Runs.{Act, Goes, Puts, Reads, Ends, Stopped, with_put, with_read, act_in, run, outcome}
use Rattle.ck_base.specs.Runs.{ending_alone}
use Rattle.ck_base.specs.World.{World, Done, Outcome, nothing_done, fails_after}
use Rattle.obj_mem.specs.declared.ending.Ending.{Ending}
use Rattle.obj_mem.specs.declared.ending.Ending.TheVariants as ending
use Rattle.cheri_c_sem.specs.Calls.{fate, meant}
use Rattle.cheri_c_sem.specs.Operations.{Operations}
use Rattle.cheri_c_sem.specs.Steps.{Fate, outcome_of}
use Rattle.cheri_c_sem.specs.Tree.{Fun, Program}
use Rattle.mean_steps.specs.Laws.{RunsAreMeant}
use Rattle.mean_steps.specs.Machine.{Moment, act, first_moment, limits}
use Rattle.mean_steps.specs.Weights.{acts_left}
use Rattle.mean_steps.proofs.Meant.{meant_of, acted}
use Rattle.mean_steps.proofs.Steps.{kept}
use Rattle.mean_steps.proofs.Weighing.{Within, Falls, falls, fewer, own_endings}

-- where a run stopped, as what it came to
abbrev fate_of : {S : Type 0} → Stopped S Ending → Fate
fate_of r = record { done = r.done; ending = r.ending }

module _ {M : Type 0} (ops : Operations M) (funs : List Fun) where
  abbrev next : World → ℕ → Moment M → Done → Stopped (Moment M) Ending
  next w n = run limits (act ops funs) w n

  abbrev Enough : ℕ → Moment M → Type 0
  Enough n m = (acts_left funs m < n) × Within ops funs m.work

  put_meant : (w : World) (fails : Bool) (n b : ℕ) (m m' : Moment M) (d : Done) →
      fate_of (next w n m' (with_put d b)) ≡ meant_of ops w funs m' (with_put d b) →
      fate_of (if fails then record { state = m; done = d; ending = ending.WriteFault } else next w n m' (with_put d b))
      ≡ (if fails then record { done = d; ending = ending.WriteFault } else meant_of ops w funs m' (with_put d b))
  put_meant w true n b m m' d h = refl
  put_meant w false n b m m' d h = h

  read_meant : (w : World) (fails : Bool) (n : ℕ) (m m' : Moment M) (d : Done) →
      fate_of (next w n m' (with_read d)) ≡ meant_of ops w funs m' (with_read d) →
      fate_of (if fails then record { state = m; done = d; ending = ending.ReadFault } else next w n m' (with_read d))
      ≡ (if fails then record { done = d; ending = ending.ReadFault } else meant_of ops w funs m' (with_read d))
  read_meant w true n m m' d h = refl
  read_meant w false n m m' d h = h

  -- an act, and then a run of enough acts
  act_meant : (w : World) (n : ℕ) (m : Moment M) (d : Done) (a : Act (Moment M) Ending) → Within ops funs m.work →
      acts_left funs m ≤ n → Falls ops funs (Within ops funs m.work) (acts_left funs m) a →
      ((m' : Moment M) (d' : Done) → Enough n m' → fate_of (next w n m' d') ≡ meant_of ops w funs m' d') →
      fate_of (act_in limits w m d (next w n) a) ≡ acted ops w funs d a
  act_meant w n m d (Goes m') q le f h = let r = f q in let less = r.0 in h m' d (omega arith, r.1)
  act_meant w n m d (Puts b m') q le f h =
      let r = f q in let less = r.0 in
      put_meant w (fails_after w.failing_put (length d.output)) n b m m' d (h m' (with_put d b) (omega arith, r.1))
  act_meant w n m d (Reads to) q le f h =
      let byte = slice_get w.bytes d.reads in
      let r = f byte q in
      let less = r.0 in
      read_meant w (fails_after w.failing_read d.reads) n m (to byte) d (h (to byte) (with_read d) (omega arith, r.1))
  act_meant w n m d (Ends e) q le f h = refl

  pub run_meant : (w : World) (n : ℕ) (m : Moment M) (d : Done) → Enough n m →
      fate_of (next w n m d) ≡ meant_of ops w funs m d
  run_meant w zero m d h = absurd (let less = h.0 in omega arith)
  run_meant w (suc n) m d h =
      let less = h.0 in
      ap fate_of (run-suc limits (act ops funs) w n m d (act ops funs m) refl)
      ∙ (act_meant w n m d (act ops funs m) h.1 (omega arith) (falls ops funs m) (λ m' d' e. run_meant w n m' d' e)
      ∙ sym (kept ops w funs m d))

module _ {M : Type 0} (ops : Operations M) (p : Program) where
  -- the first moment means the program
  first_meant : (w : World) (turns : ℕ) →
      meant_of ops w p.funs (first_moment ops p turns) nothing_done ≡ fate ops p w turns
  unfolding first_moment fate
  first_meant w turns = refl

  pub first_within : (turns : ℕ) → Within ops p.funs (first_moment ops p turns).work
  unfolding first_moment
  first_within turns = (omega arith, tt)

  pub outcome_meant : (w : World) (turns n : ℕ) → acts_left p.funs (first_moment ops p turns) < n →
      outcome limits (act ops p.funs) ending_alone (first_moment ops p turns) n w ≡ meant ops p w turns
  outcome_meant w turns n h =
      ap (outcome_of w) (run_meant ops p.funs w n (first_moment ops p turns) nothing_done (h, first_within turns)
      ∙ first_meant w turns)

pub runs_are_meant_law : RunsAreMeant
runs_are_meant_law ops p w turns n h = outcome_meant ops p w turns n h

-- ---- runs that are done act by act

same_run : (a b : World → Outcome Ending) (before after : Seen) (e : Ending) → ((w : World) → a w ≡ b w) →
    IsRun a before after e → IsRun b before after e
same_run a b before after e h r = subst (λ o. IsRun o before after e) (fun_ext h) r

module _ {M : Type 0} (ops : Operations M) (p : Program) (turns : ℕ) where
  -- more acts than are left of a run
  abbrev pub enough : ℕ
  enough = acts_left p.funs (first_moment ops p turns) + 1

  -- a run that goes on
  abbrev pub Lasts : Seen → Seen → Moment M → Type 0
  Lasts before now m = (k : ℕ) × (acts_left p.funs m < k) × Within ops p.funs m.work ×
      Running limits (act ops p.funs) enough (first_moment ops p turns) before now m k

  pub begins : (before : Seen) → Lasts before before (first_moment ops p turns)
  begins before = (
    enough,
    omega arith,
    first_within ops p turns,
    Running-first limits (act ops p.funs) enough (first_moment ops p turns) before,
  )

  pub goes_on : {before now next : Seen} {m m' : Moment M} → Lasts before now m →
      Acted limits (act ops p.funs m) now next m m' None → Lasts before next m'
  goes_on (zero, few, within, running) was = absurd (omega arith)
  goes_on (suc k, few, within, running) was =
      let less = fewer ops p.funs _ _ _ _ within was in
      let smaller = less.0 in
      (k, omega arith, less.1, Running-acted limits (act ops p.funs) _ _ _ _ _ _ _ k running was)

  -- fewer acts are left
  pub lessens : {before now : Seen} {m : Moment M} (next : Seen) (m' : Moment M) → Lasts before now m →
      Acted limits (act ops p.funs m) now next m m' None → acts_left p.funs m' < acts_left p.funs m
  lessens next m' (k, few, within, running) was = (fewer ops p.funs _ _ _ _ within was).0

  pub comes_to_end : {before now next : Seen} {m : Moment M} {e : Ending} (m' : Moment M) →
      before.source_faults < 2 ^ 64 - 1 → before.sink_faults < 2 ^ 64 - 1 → Lasts before now m →
      Acted limits (act ops p.funs m) now next m m' (Some e) →
      IsRun (λ w. meant ops p w turns) before next e × Counted limits before next e
  comes_to_end m' source_room sink_room (zero, few, within, running) was = absurd (omega arith)
  comes_to_end {before = before} {next = after} {e = e} m' source_room sink_room (suc k, few, within, running) was =
      let both = run_ended limits (act ops p.funs)
      (own_endings ops p.funs) ending_alone _ _ _ _ _ _ _ k _ source_room sink_room running was in (
        same_run _ (λ w. meant ops p w turns) before after e
            (λ w. outcome_meant ops p w turns enough (omega arith)) both.0,
        both.1,
      )
