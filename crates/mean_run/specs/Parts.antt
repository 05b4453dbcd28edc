-- What parts of a run and its steps do, against what is meant.
use Rattle.std.specs.Prelude.{◌≡◌, Result, Ok, Err}
use Rattle.ck_base.specs.Runs.{Act, Goes, Ends}
use Rattle.c_tree.specs.declared.typed.Typed.{Typed}
use Rattle.ck_base.specs.declared.positions.Pos.{Pos}
use Rattle.obj_mem.specs.declared.ending.Ending.{Ending}
use Rattle.obj_mem.specs.declared.ending.UnitFault.{UnitFault}
use Rattle.obj_mem.specs.Values.{Value}
use Rattle.cheri_c_sem.specs.Steps.{unit_end}
use Rattle.cheri_c_sem.specs.Modes.{Store}
use Rattle.mean_steps.specs.Machine.{Moment, done_in, with_value}
use Rattle.mean_steps.specs.Parts.{Now, Came, On, Over, Part}
use Rattle.mean_run.specs.declared.state.State.{State}
use Rattle.mean_work.specs.declared.work.Stop.{Stop}
use Rattle.mean_work.specs.declared.work.Stop.TheVariants as stop
use Rattle.mean_run.specs.Views.{now_of, moment_of}

-- the state of a run has become this, whatever the program and whatever is held of memory
abbrev pub Becomes : State → State → (Typed → Moment Store → Moment Store) → Type 0
Becomes old new f = (p : Typed) (held : Store) → moment_of p new held ≡ f p (moment_of p old held)

-- What a part that changes nothing came to: it gave this, or the run ends so. For want of memory nothing is said
abbrev pub Gives : {A B : Type 0} → Came Store A → (B → A) → Now Store → Result B Stop → Type 0
Gives c view n (Ok x) = c ≡ On (view x) n
Gives c view n (Err (stop.Ended e)) = c ≡ Over e
Gives c view n (Err stop.NoMemory) = Unit {0}

-- A part was done: it gave this, and changed what it says and nothing beside it; or the run ends so
abbrev pub Did : {A B : Type 0} → Part Store A → (B → A) → Typed → State → State → Store → Store → Result B Stop →
    Type 0
Did c view p old new held left (Ok x) =
    (c (now_of old held) ≡ On (view x) (now_of new left)) ×
    (moment_of p new left ≡ record (moment_of p old held) { now = now_of new left })
Did c view p old new held left (Err (stop.Ended e)) = c (now_of old held) ≡ Over e
Did c view p old new held left (Err stop.NoMemory) = Unit {0}

-- the same, of a part that gives nothing and did not end the run
abbrev pub DidAll : Part Store (Unit {0}) → Typed → State → State → Store → Store → Type 0
DidAll c p old new held left =
    (c (now_of old held) ≡ On tt (now_of new left)) ×
    (moment_of p new left ≡ record (moment_of p old held) { now = now_of new left })

-- A step was done: the run goes on from there, or ends so
abbrev pub Does : Act (Moment Store) Ending → Moment Store → Result (Unit {0}) Stop → Type 0
Does a m (Ok u) = a ≡ Goes m
Does a m (Err (stop.Ended e)) = a ≡ Ends e
Does a m (Err stop.NoMemory) = Unit {0}

-- what a part came to goes on the values, or the run ends so
abbrev pub given_in : Came Store Value → Moment Store → Act (Moment Store) Ending
given_in c m = done_in m (λ v t. Goes (with_value v t)) c

-- X, unless memory was wanting
abbrev pub Unless_wanting : Result (Unit {0}) Stop → Type 0 → Type 0
Unless_wanting (Ok u) X = X
Unless_wanting (Err stop.NoMemory) X = Unit {0}
Unless_wanting (Err (stop.Ended e)) X = ⊥

-- a part that changes memory alone was done, and leaves it so; or the run ends so
abbrev pub LeavesIt : Came Store (Unit {0}) → Now Store → Result (Unit {0}) Stop → Type 0
LeavesIt c n (Ok u) = c ≡ On tt n
LeavesIt c n (Err (stop.Ended e)) = c ≡ Over e
LeavesIt c n (Err stop.NoMemory) = ⊥

-- one unit of a struct copy was done; or the run ends so
abbrev pub UnitCopied : Result Store UnitFault → Pos → Pos → Store → Result (Unit {0}) Stop → Type 0
UnitCopied r from to left (Ok u) = r ≡ Ok left
UnitCopied r from to left (Err (stop.Ended e)) = (f : UnitFault) × (r ≡ Err f) × (e ≡ unit_end f from to)
UnitCopied r from to left (Err stop.NoMemory) = ⊥
