-- The simulation of calls: a call comes to what the code of the function comes to, from its entry on, in front of what
-- the caller goes on with.
use Rattle.std.specs.Prelude.{◌≡◌, ℕ, ◌%◌, ◌≤◌, ◌<◌, List, [], ◌∷◌, length, Option, Some, None, slice_get}
use Rattle.ck_base.specs.World.{World}
use Rattle.c_tree.specs.declared.typed.Typed.{Typed}
use Rattle.obj_mem.specs.Values.{Value}
use Rattle.obj_mem.specs.declared.ending.Ending.TheVariants as ending
use Rattle.cheri_c_sem.specs.Modes.{Store}
use Rattle.cheri_c_sem.specs.Kinds.{number_of}
use Rattle.cheri_c_sem.specs.Meaning.{value_of, values_of}
use Rattle.cheri_c_sem.specs.Operations.{Operations}
use Rattle.cheri_c_sem.specs.Steps.{State, Fate, Then, over}
use Rattle.cheri_c_sem.specs.Tree.{Ex, Exs}
use Rattle.tac_ir.specs.Effects.{kind_of}
use Rattle.tac_ir.specs.Meaning.{Caller, Running, Runs, turns, behind_turn, in_frame, with_result, code_at, name_of}
use Rattle.tac_ir.specs.declared.code.Tac.{Tac}
use Rattle.tac_ir.specs.declared.code.TacInstr.{TacInstr}
use Rattle.tac_ir.specs.declared.code.TacKind.{TacKind}
use Rattle.lower_runs.specs.States.{Scene, IsOf, IsOnward, Agrees}
use Rattle.lower_runs.specs.Sound.{IsSound}
use Rattle.lower_runs.specs.Operating.{Code}
use Rattle.lower_runs.specs.Expressions.{Mark, Signature, spares, spare}
use Rattle.lower_runs.specs.Simulation.{IsPiece, HasRoom, IsTargetIfAny, Done, Valued, goes}
use Rattle.lower_runs.specs.Following.{given_back, IsGiven}

-- values of kinds
abbrev pub AreOf : List TacKind → List Value → Type 0
AreOf [] [] = Unit {0}
AreOf [] (v ∷ vs) = ⊥
AreOf (k ∷ ks) [] = ⊥
AreOf (k ∷ ks) (v ∷ vs) = IsOf (kind_of k) v × AreOf ks vs

-- temps have values
abbrev pub AreIn : List ℕ → List Value → List (Option Value) → Type 0
AreIn [] [] us = Unit {0}
AreIn [] (v ∷ vs) us = ⊥
AreIn (t ∷ ts) [] us = ⊥
AreIn (t ∷ ts) (v ∷ vs) us = (slice_get us t ≡ Some (Some v)) × AreIn ts vs us

module _ (ops : Operations Store) (w : World) (t : Tac) (p : Typed) (objects : ℕ → List ℕ)
    (call : ℕ → List Value → Then Store Value) (signs : ℕ → Signature) where
  -- back in the caller, with the same variables, objects and frame
  pub record Back (s u : State Store) : Type 0 where
    pub vars : u.vars ≡ s.vars
    pub first : u.first ≡ s.first
    pub frame : u.frame ≡ s.frame
    pub left : u.left ≤ s.left
    pub onward : IsOnward ops s.mem u.mem

  -- a function's code from its entry on, behind the turn of its call
  abbrev pub entered : Option ℕ → ℕ → List Value → Running → State Store → Fate
  entered None f vs r s = over (ending.Stack (name_of (slice_get t.funs f))) s
  entered (Some address) f vs r s =
      turns ops w t p objects s.left (code_at ops w t p objects f) Runs r (in_frame ops w t p objects address f vs s)

  -- the newest caller's code behind the turn of a return; where there is none, the run is over
  abbrev pub backs : List Caller → Value → State Store → Fate
  backs [] v u = over (ending.Exit (number_of v % 256)) u
  backs (c ∷ cs) v u = behind_turn ops w t p objects u.left c.rest Runs (record { fun = c.fun; callers = cs })
      (record u { vars = with_result c.vars c.to v; first = c.first; frame = c.frame })

  -- Calls do what the code of their functions does, where fewer turns are left than a number
  pub record CallsRun (limit : ℕ) : Type 0 where
    pub runs : (f : ℕ) (vs : List Value) (s : State Store) (callers : List Caller) (k : Value → State Store → Fate) →
        f < length p.funs → s.left < limit → IsSound s.mem → s.frame ≤ ops.stack_top → AreOf (signs f).takes vs
        → ((v : Value) (u : State Store) → IsGiven (signs f).gives v → Back s u →
        k v u ≡ backs callers (given_back (signs f).gives v) u)
        → call f vs s k ≡ entered (ops.enter f s.frame) f vs (record { fun = f; callers = callers }) s

  module _ (r : Running) (g : Scene) where
    -- ---- arguments, and calls as expressions

    pub record ArgumentsHeld (es : Exs) (ks : List TacKind) (ts : List ℕ) (m : Mark) (s : State Store)
        (temps : List (Option Value)) (vs : List Value) (u : State Store) (us : List (Option Value)) : Type 0 where
      pub done : Done ops g (λ x. spare x es) m s temps u us
      pub values : AreIn ts vs us
      pub typed : AreOf ks vs

    pub record ArgumentsRun (es : Exs) (ks : List TacKind) (ts : List ℕ) (m n : Mark) (c : Code) : Type 0 where
      pub piece : IsPiece m n c
      pub runs : (s : State Store) (temps : List (Option Value)) (l : List Value → State Store → Fate)
          (rest : List TacInstr) →
          HasRoom g m n → Agrees ops g None s temps
          → ((vs : List Value) (u : State Store) (us : List (Option Value)) → ArgumentsHeld es ks ts m s temps vs u us →
          l vs u ≡ goes ops w t p objects r call g rest u us)
          → values_of ops w call es s l ≡ goes ops w t p objects r call g (c rest) s temps

    -- the value of a call, where there is one and it is asked for
    abbrev pub Resulted : Option TacKind → Ex → Option ℕ → Mark → State Store → List (Option Value) → Value →
        State Store →
        List (Option Value) → Type 0
    Resulted k e None m s temps v u us = Done ops g (λ x. spares x e) m s temps u us
    Resulted None e (Some to) m s temps v u us = ⊥
    Resulted (Some k) e (Some to) m s temps v u us = Valued ops g k (λ x. spares x e) to m s temps v u us

    pub record CallRuns (k : Option TacKind) (e : Ex) (to : Option ℕ) (m n : Mark) (c : Code) : Type 0 where
      pub piece : IsPiece m n c
      pub runs : (s : State Store) (temps : List (Option Value)) (l : Value → State Store → Fate)
          (rest : List TacInstr) →
          HasRoom g m n → IsTargetIfAny g m to → Agrees ops g None s temps
          → ((v : Value) (u : State Store) (us : List (Option Value)) → Resulted k e to m s temps v u us →
          l v u ≡ goes ops w t p objects r call g rest u us)
          → value_of ops w call e s l ≡ goes ops w t p objects r call g (c rest) s temps

-- a value is asked for only of what gives one
abbrev pub IsAsked : Option ℕ → Option TacKind → Type 0
IsAsked None k = Unit {0}
IsAsked (Some to) None = ⊥
IsAsked (Some to) (Some k) = Unit {0}
