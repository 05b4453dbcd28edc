-- A run goes on, act by act.
use Rattle.std.proofs.Common.{◌≡◌, ◌+◌, ◌^◌, ◌-◌, ◌<◌, true, Option, Some, None, refl, sym, ◌∙◌, subst, inl}
use Rattle.std.proofs.Common.{inr}
use Rattle.ck_base.specs.Calls.{Seen, Acted, IsRun, Counted}
use Rattle.ck_base.specs.Runs.{Act, Goes, Puts, Reads, Ends, outcome, ending_alone}
use Rattle.c_tree.specs.declared.typed.Typed.{Typed}
use Rattle.obj_mem.specs.declared.ending.Ending.{Ending}
use Rattle.obj_mem.specs.declared.map.Map.{Map}
use Rattle.cheri_c_sem.specs.Modes.{Store, operations, placed_plan}
use Rattle.tac_ir.specs.WellFormed.{is_well_formed}
use Rattle.tac_ir.specs.declared.code.Tac.{Tac}
use Rattle.tac_steps.specs.Machine.{Moment, act, limits}
use Rattle.tac_steps.specs.Weights.{acts_left}
use Rattle.tac_steps.proofs.Fewer.{fewer}
use Rattle.tac_steps.proofs.Runs.{Lasts, begins, goes_on, comes_to_end}
use Rattle.tac_run.specs.Moments.{IsSound, Leads}
use Rattle.tac_run.specs.Ready.{IsRoomy, objects_by}
use Rattle.stopped_runs.specs.Stopping.{StoppedShort}
use Rattle.tac_run.specs.Views.{moment_of, ops_in}
use Rattle.tac_run.specs.declared.run.Run.{Run}
use Rattle.tac_run.proofs.Acts.{acts_stay_sound_law}
use Rattle.stopped_runs.proofs.Shortened.{stopped_short}

leads_to : (P : Moment Store → Type 0) (a : Act (Moment Store) Ending) (before after : Seen) (old new : Moment Store) →
    Leads P a → Acted limits a before after old new None → P new
leads_to P (Goes s) before after old new h acted = subst P (sym acted.1) h
leads_to P (Ends e) before after old new h acted = absurd (let e : None ≡ Some e = acted.0 in cc)
leads_to P (Puts b s) before after old new h (inl acted) = subst P (sym acted.1) h
leads_to P (Puts b s) before after old new h (inr acted) =
    absurd (let e : None ≡ Some limits.write_fault = acted.0 in cc)
leads_to P (Reads to) before after old new h (inl acted) = subst P (sym acted.2) (h acted.0)
leads_to P (Reads to) before after old new h (inr acted) =
    absurd (let e : None ≡ Some limits.read_fault = acted.0 in cc)

-- from a first moment, by the map of that moment
pub record GoesOn (t : Tac) (p : Typed) (first : Run) (before : Seen) (now : Run) (seen : Seen) : Type 0 where
  pub under : now.now.memory.map ≡ first.now.memory.map
  pub sound : IsSound p (moment_of now)
  pub lasts : Lasts (ops_in first) t p (objects_by p) (moment_of first) before seen (moment_of now)

module _ (t : Tac) (p : Typed) (first : Run) (before : Seen) where
  pub begun : IsSound p (moment_of first) → GoesOn t p first before first before
  begun sound = record {
    under = refl;
    sound = sound;
    lasts = begins (ops_in first) t p (objects_by p) (moment_of first) before;
  }

  under_first : (now : Run) (m : Map) → m ≡ first.now.memory.map →
      (seen next : Seen) (new : Moment Store) (e : Option Ending)
      → Acted limits (act (operations (placed_plan m)) t (objects_by p) p (moment_of now)) seen next
      (moment_of now) new e
      → Acted limits (act (ops_in first) t (objects_by p) p (moment_of now)) seen next (moment_of now) new e
  under_first now m under seen next new e h =
      subst (λ m. Acted limits (act (operations (placed_plan m)) t (objects_by p) p (moment_of now)) seen next
      (moment_of now) new e) under h

  module _ (now : Run) (seen next : Seen) (so_far : GoesOn t p first before now seen) where
    -- what the next act leaves
    abbrev pub Acts : Moment Store → Option Ending → Type 0
    Acts new e = Acted limits (act (ops_in now) t (objects_by p) p (moment_of now)) seen next (moment_of now) new e

    pub further : (new : Run) → is_well_formed t p ≡ true → IsRoomy p now.now.memory.map →
        new.now.memory.map ≡ now.now.memory.map → Acts (moment_of new) None → GoesOn t p first before new next
    further new formed roomy same h =
        record {
          under = same ∙ so_far.under;
          sound = leads_to (IsSound p) _ _ _ _ _ (acts_stay_sound_law t p now.now.memory.map
              (moment_of now) formed roomy so_far.sound) h;
          lasts = goes_on (ops_in first) t p (objects_by p) (moment_of first) so_far.lasts
              (under_first now now.now.memory.map so_far.under seen next (moment_of new) None h);
        }

    pub fewer_left : (new : Run) → Acts (moment_of new) None →
        acts_left t (moment_of new) < acts_left t (moment_of now)
    fewer_left new h = fewer (ops_in now) t p (objects_by p) seen next (moment_of now) (moment_of new) h

    pub short : next ≡ seen →
        StoppedShort (outcome limits (act (ops_in first) t (objects_by p) p) ending_alone (moment_of first)
        (acts_left t (moment_of first) + 1)) before next
    short e =
        subst (λ z. StoppedShort (outcome limits (act (ops_in first) t (objects_by p) p) ending_alone (moment_of first)
        (acts_left t (moment_of first) + 1)) before z) (sym e)
        (stopped_short limits (act (ops_in first) t (objects_by p) p) ending_alone _ _ _ _ _ _ so_far.lasts.2)

    pub over : (e : Ending) → before.source_faults < 2 ^ 64 - 1 → before.sink_faults < 2 ^ 64 - 1 →
        Acts (moment_of now) (Some e) →
        IsRun (outcome limits (act (ops_in first) t (objects_by p) p) ending_alone (moment_of first)
        (acts_left t (moment_of first) + 1)) before next e × Counted limits before next e
    over e source_room sink_room h =
        comes_to_end (ops_in first) t p (objects_by p) (moment_of first)
        (moment_of now) source_room sink_room so_far.lasts
        (under_first now now.now.memory.map so_far.under seen next (moment_of now) (Some e) h)
