-- How a run at the addresses of a map may end where a run without addresses ends.
use Rattle.std.specs.Prelude.{◌≡◌, ◌⊎◌}
use Rattle.ck_base.specs.Calls.{BeginsWith}
use Rattle.ck_base.specs.World.{Outcome}
use Rattle.obj_mem.specs.declared.ending.Ending.{Ending}
use Rattle.obj_mem.specs.declared.ending.Ending.TheVariants as ending
use Rattle.cheri_c_sem.specs.Steps.{Fate}

-- the strict meaning leaves open what follows
abbrev pub IsOpen : Ending → Type 0
IsOpen (ending.Unspecified reason pos) = Unit {0}
IsOpen (ending.Outside pos) = Unit {0}
IsOpen e = ⊥

-- there was no room for a frame
abbrev pub IsStack : Ending → Type 0
IsStack (ending.Stack pos) = Unit {0}
IsStack e = ⊥

-- of a strict run and a placed one: the strict one leaves open what follows; they come to the same; or the placed one
-- ends for want of stack, and has put the beginning of what the strict one puts
abbrev pub Agrees : Fate → Fate → Type 0
Agrees o p = IsOpen o.ending ⊎ ((p ≡ o) ⊎ (IsStack p.ending × BeginsWith o.done.output p.done.output))

-- the same of what runs come to
abbrev pub Follows : Outcome Ending → Outcome Ending → Type 0
Follows o p = IsOpen o.ending ⊎ ((p ≡ o) ⊎ (IsStack p.ending × BeginsWith o.output p.output))

-- the strict meaning says how the run ends
abbrev pub IsDefined : Ending → Type 0
IsDefined (ending.Unspecified reason pos) = ⊥
IsDefined (ending.Outside pos) = ⊥
IsDefined e = Unit {0}

-- A placed run has the output of the strict one, takes as many bytes and ends as it does; or it ends for want of
-- stack, and its output is the beginning of the strict run's
abbrev pub IsAsMeant : Outcome Ending → Outcome Ending → Type 0
IsAsMeant o p = (p ≡ o) ⊎ (IsStack p.ending × BeginsWith o.output p.output)
