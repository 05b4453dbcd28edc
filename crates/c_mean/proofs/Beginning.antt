-- The state with which a run begins.
use Rattle.std.proofs.Common.{◌≡◌, [], ◌∷◌, refl}
use Rattle.c_tree.specs.declared.typed.Typed.{Typed}
use Rattle.cheri_c_sem.specs.Calls.{start}
use Rattle.cheri_c_sem.specs.Modes.{Store}
use Rattle.cheri_c_sem.specs.Operations.{Operations}
use Rattle.cheri_c_sem.specs.Programs.{program_tree}
use Rattle.mean_run.specs.declared.state.State.{State}
use Rattle.mean_work.specs.declared.work.Work.TheVariants as work
use Rattle.mean_run.specs.Views.{moment_of}
use Rattle.mean_steps.specs.Machine.{first_moment}

pub at_first : (ops : Operations Store) (p : Typed) (s : State) (held : Store) →
    s.work ≡ work.Begin p.main ∷ [] → s.values ≡ [] → s.places ≡ [] → s.callers ≡ [] →
    s.call.variables.items ≡ [] → s.call.first ≡ 0 → s.call.frame ≡ ops.stack_top →
    held ≡ start ops (program_tree p) → moment_of p s held ≡ first_moment ops (program_tree p) s.left
unfolding first_moment program_tree
at_first ops p s held e1 e2 e3 e4 e5 e6 e7 e8 = rw (e1, e2, e3, e4, e5, e6, e7, e8) refl
