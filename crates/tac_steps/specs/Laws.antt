-- What the machine's runs are.
use Rattle.std.specs.Prelude.{◌≡◌, ℕ, ◌<◌, List, Some}
use Rattle.ck_base.specs.Runs.{outcome, ending_alone}
use Rattle.ck_base.specs.World.{World}
use Rattle.c_tree.specs.declared.typed.Typed.{Typed}
use Rattle.cheri_c_sem.specs.Modes.{Store}
use Rattle.cheri_c_sem.specs.Operations.{Operations}
use Rattle.cheri_c_sem.specs.Steps.{outcome_of}
use Rattle.cheri_c_sem.specs.Tree.{Program}
use Rattle.tac_ir.specs.Meaning.{fate}
use Rattle.tac_ir.specs.declared.code.Tac.{Tac}
use Rattle.tac_steps.specs.Machine.{first_moment, act, limits}
use Rattle.tac_steps.specs.Weights.{acts_left}

-- Where there is room for the frame of `main`, a run of more acts than its turns allow comes to what the code means, in
-- every world, whatever the operations on values and memory are
abbrev pub RunsAreMeant : Type 0
RunsAreMeant =
    (ops : Operations Store) (t : Tac) (p : Typed) (objects : ℕ → List ℕ) (program : Program) (address : ℕ) (w : World)
    (turns n : ℕ) →
    ops.enter program.main ops.stack_top ≡ Some address →
    acts_left t (first_moment ops t objects address program turns) < n →
    outcome limits (act ops t objects p) ending_alone (first_moment ops t objects address program turns) n w
    ≡ outcome_of w (fate ops w t p objects program turns)
