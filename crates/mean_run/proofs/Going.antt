-- A run goes on, act by act.
use mathlib.Core.Path.{fun_ext}
use Rattle.std.proofs.Common.{◌≡◌, ℕ, suc, ◌-◌, ◌^◌, ◌<◌, List, Result, Ok, Err, None, inl, inr, sym, subst, arith}
use Rattle.std.proofs.lemmas.Option.{none-some}
use Rattle.ck_base.specs.Calls.{Seen, Acted, IsRun, Counted}
use Rattle.ck_base.specs.Runs.{Act, Goes, Puts, Reads, Ends, ending_alone}
use Rattle.stopped_runs.specs.Stopping.{StoppedShort}
use Rattle.stopped_runs.proofs.Shortened.{stopped_short}
use Rattle.c_tree.specs.declared.typed.Typed.{Typed}
use Rattle.obj_mem.specs.declared.ending.Ending.{Ending}
use Rattle.cheri_c_sem.specs.Calls.{meant}
use Rattle.cheri_c_sem.specs.Modes.{Store}
use Rattle.cheri_c_sem.specs.Operations.{Operations}
use Rattle.cheri_c_sem.specs.Programs.{program_tree}
use Rattle.mean_steps.specs.Machine.{Moment, act, first_moment, limits}
use Rattle.mean_steps.specs.Weights.{acts_left}
use Rattle.mean_steps.proofs.Runs.{Lasts, begins, comes_to_end, enough, goes_on, lessens, outcome_meant}
use Rattle.obj_mem.specs.Values.{Value}
use Rattle.mean_bases.specs.Bases.{HaveBases}
use Rattle.mean_bases.specs.Moments.{LeadsTo, IsReached}
use Rattle.mean_run.specs.Acts.{Stepped}
use Rattle.mean_work.specs.declared.work.Stop.{Stop}
use Rattle.mean_work.specs.declared.work.Stop.TheVariants as stop
use Rattle.mean_run.specs.Views.{funs_of}

-- an act that was done leads on
led : (now next : Seen) (m m' : Moment Store) (a : Act (Moment Store) Ending) → Acted limits a now next m m' None →
    LeadsTo a m'
led now next m m' (Goes s) h = h.1
led now next m m' (Puts b s) (inl h) = h.1
led now next m m' (Puts b s) (inr h) = absurd (none-some _ h.0)
led now next m m' (Reads to) (inl h) = (h.0, h.2)
led now next m m' (Reads to) (inr h) = absurd (none-some _ h.0)
led now next m m' (Ends e) h = absurd (none-some e h.0)

module _ (ops : Operations Store) (p : Typed) (turns : ℕ) where
  -- a moment of the run
  abbrev pub Reached : Moment Store → Type 0
  Reached m = IsReached (act ops (funs_of p)) (first_moment ops (program_tree p) turns) m

  pub bases_at : (o : Operations Store) (held : Store) (vs : List Value) → o ≡ ops → HaveBases ops held vs →
      HaveBases o held vs
  bases_at o held vs same h = subst (λ o. HaveBases o held vs) (sym same) h

  -- a run that goes on
  abbrev pub Going : Seen → Seen → Moment Store → Type 0
  Going before now m = Lasts ops (program_tree p) turns before now m

  pub begun : (before : Seen) (m : Moment Store) → m ≡ first_moment ops (program_tree p) turns → Going before before m
  begun before m e = subst (λ m. Going before before m) (sym e) (begins ops (program_tree p) turns before)

  -- the next act is that of the same operations
  module _ (before now next : Seen) (m : Moment Store) (going : Going before now m) (o : Operations Store)
      (same : o ≡ ops) where
    abbrev pub Acts : Moment Store → Result (Unit {0}) Stop → Type 0
    Acts m' r = Stepped (act o (funs_of p) m) now next m m' r

    of_same : (m' : Moment Store) (r : Result (Unit {0}) Stop) → Acts m' r →
        Stepped (act ops (funs_of p) m) now next m m' r
    of_same m' r was = subst (λ o. Stepped (act o (funs_of p) m) now next m m' r) same was

    pub further : (m' : Moment Store) → Acts m' (Ok tt) → Going before next m'
    unfolding program_tree
    further m' was = goes_on ops (program_tree p) turns going (of_same m' (Ok tt) was)

    pub reached : (m' : Moment Store) → Reached m → Acts m' (Ok tt) → Reached m'
    reached m' r was =
        (suc r.0, (m, r.1, led now next m m' (act ops (funs_of p) m) (of_same m' (Ok tt) was)))

    pub fewer : (m' : Moment Store) → Acts m' (Ok tt) → acts_left (funs_of p) m' < acts_left (funs_of p) m
    unfolding program_tree
    fewer m' was = lessens ops (program_tree p) turns next m' going (of_same m' (Ok tt) was)

    pub over : (e : Ending) → before.source_faults < 2 ^ 64 - 1 → before.sink_faults < 2 ^ 64 - 1 →
        Acts m (Err (stop.Ended e)) →
        IsRun (λ w. meant ops (program_tree p) w turns) before next e × Counted limits before next e
    unfolding program_tree
    over e source sink was =
        comes_to_end ops (program_tree p) turns m source sink going (of_same m (Err (stop.Ended e)) was)

    pub short : next ≡ now → StoppedShort (λ w. meant ops (program_tree p) w turns) before next
    short kept =
        let q = program_tree p in
        let (k, few, within, running) = going in
        subst (λ o. StoppedShort o before next)
        (fun_ext (λ w. outcome_meant ops q w turns (enough ops q turns) (omega arith)))
        (subst (StoppedShort _ before) (sym kept)
        (stopped_short limits (act ops q.funs) ending_alone (enough ops q turns) (first_moment ops q turns)
        before now m k running))
