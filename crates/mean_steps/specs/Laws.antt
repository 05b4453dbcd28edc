-- What the machine's runs are.
use Rattle.std.specs.Prelude.{◌≡◌, ℕ, ◌<◌}
use Rattle.ck_base.specs.Runs.{outcome, ending_alone}
use Rattle.ck_base.specs.World.{World}
use Rattle.cheri_c_sem.specs.Calls.{meant}
use Rattle.cheri_c_sem.specs.Modes.{Store}
use Rattle.cheri_c_sem.specs.Operations.{Operations}
use Rattle.cheri_c_sem.specs.Tree.{Program}
use Rattle.mean_steps.specs.Machine.{first_moment, act, limits}
use Rattle.mean_steps.specs.Weights.{acts_left}

-- A run of more acts than its work and its turns allow comes to what the program means, in every world
abbrev pub RunsAreMeant : Type 0
RunsAreMeant =
    (ops : Operations Store) (p : Program) (w : World) (turns n : ℕ) → acts_left p.funs (first_moment ops p turns) < n →
    outcome limits (act ops p.funs) ending_alone (first_moment ops p turns) n w ≡ meant ops p w turns
