-- The whole run of a program in a mode.
use Rattle.std.proofs.Common.{◌≡◌, ℕ, refl, sym, ap, ◌∙◌, subst, arith}
use Rattle.ck_base.specs.Calls.{Seen, IsRun}
use Rattle.ck_base.specs.World.{World, Outcome}
use Rattle.stopped_runs.specs.Stopping.{StoppedShort}
use Rattle.c_tree.specs.File.{HasRoom}
use Rattle.c_tree.specs.Typing.{Sound}
use Rattle.c_tree.specs.declared.typed.Typed.{Typed}
use Rattle.typing_laws.proofs.Sound.{well_typed}
use Rattle.obj_mem.specs.declared.ending.Ending.{Ending}
use Rattle.obj_mem.specs.declared.map.Mode as known
use Rattle.obj_mem.specs.declared.map.Mode.TheVariants as mode
use Rattle.cheri_c_sem.specs.Calls.{meant}
use Rattle.cheri_c_sem.specs.Modes.{Store, operations}
use Rattle.cheri_c_sem.specs.Operations.{Operations}
use Rattle.cheri_c_sem.specs.Programs.{program_tree}
use Rattle.mean_bases.specs.Bases.{HaveBases}
use Rattle.mean_bases.specs.Moments.{IsReached}
use Rattle.mean_bases.proofs.Runs.{placed_runs_law, strict_runs_law}
use Rattle.mean_run.specs.Views.{funs_of}
use Rattle.mean_steps.specs.Machine.{Moment, act, first_moment}
use Rattle.c_mean.specs.HeldMemory.{plan_of}
use Rattle.c_mean.specs.Modes.{IsLegalIn, run_in}
use Rattle.c_mean.proofs.Low.{first_low}
use Rattle.c_mean.proofs.Mapped.{global_small, literal_small, has_frames}
use Rattle.c_mean.proofs.Roomy.{begins, links_low}

-- at each moment of it bases are numbers of 64 bits
abbrev TellsBases : Operations Store → Typed → ℕ → Type 0
TellsBases ops p turns = (t : Moment Store) →
    IsReached (act ops (funs_of p)) (first_moment ops (program_tree p) turns) t → HaveBases ops t.now.mem t.values

tells : (p : Typed) → Sound p → HasRoom p → (d : known.Mode) → IsLegalIn p d → (turns : ℕ) →
    TellsBases (operations (plan_of d)) p turns
tells p sound room (mode.Placed m) legal turns t r =
    let w = well_typed p sound in
    let frames = has_frames p m.now legal sound in
    let range = legal.in_range in
    let stack = range.2.2.2.1 in
    placed_runs_law m.now (funs_of p) _ t frames
    (first_low p m.now frames (begins p w room) (global_small p m.now legal) (literal_small p m.now legal)
    (links_low p w room) (omega arith) turns) r
tells p sound room mode.Strict legal turns t r = strict_runs_law t

run_is : (p : Typed) (d : known.Mode) (turns : ℕ) →
    (let m : World → Outcome Ending = λ w. meant (operations (plan_of d)) (program_tree p) w turns in m)
    ≡ (λ w. run_in p d w turns)
run_is p (mode.Placed m) turns = refl
run_is p mode.Strict turns = refl

module _ (p : Typed) (d : known.Mode) (ops : Operations Store) (same : ops ≡ operations (plan_of d)) where
  pub tells_bases : Sound p → HasRoom p → IsLegalIn p d → (turns : ℕ) → TellsBases ops p turns
  tells_bases sound room legal turns =
      subst (λ o. TellsBases o p turns) (sym same) (tells p sound room d legal turns)

  whole : (turns : ℕ) →
      (let m : World → Outcome Ending = λ w. meant ops (program_tree p) w turns in m) ≡ (λ w. run_in p d w turns)
  whole turns = ap (λ o w. meant o (program_tree p) w turns) same ∙ run_is p d turns

  pub runs : (turns : ℕ) (before after : Seen) (e : Ending) →
      IsRun (λ w. meant ops (program_tree p) w turns) before after e →
      IsRun (λ w. run_in p d w turns) before after e
  runs turns before after e = subst (λ o. IsRun o before after e) (whole turns)

  pub shortened : (turns : ℕ) (before after : Seen) →
      StoppedShort (λ w. meant ops (program_tree p) w turns) before after →
      StoppedShort (λ w. run_in p d w turns) before after
  shortened turns before after = subst (λ o. StoppedShort o before after) (whole turns)
