-- The simulation of statements: from states that agree, the code of a statement, in front of any instructions, comes to
-- what the statement means, in front of anything that those instructions come to, whichever way the statement is left.
use Rattle.std.specs.Prelude.{◌≡◌, ℕ, ◌+◌, ◌≤◌, ◌<◌, Bool, false, List, Option, Some, None, slice_get}
use Rattle.std.specs.Prelude.{if◌then◌else◌}
use Rattle.ck_base.specs.World.{World}
use Rattle.ck_base.specs.declared.positions.Pos.{Pos}
use Rattle.c_tree.specs.declared.typed.Typed.{Typed}
use Rattle.obj_mem.specs.Values.{Value}
use Rattle.cheri_c_sem.specs.Kinds.{Kind, nothing}
use Rattle.cheri_c_sem.specs.Modes.{Store}
use Rattle.cheri_c_sem.specs.Operations.{Operations}
use Rattle.cheri_c_sem.specs.Statements.{Flow, Goes, Breaks, Continues, Returns, exec, execs, test_of, step_of, enter}
use Rattle.cheri_c_sem.specs.Statements.{leave, execs_from}
use Rattle.cheri_c_sem.specs.Steps.{State, Fate, Then}
use Rattle.cheri_c_sem.specs.Tree.{Ex, Declared, Label, St, Sts}
use Rattle.tac_ir.specs.Effects.{kind_of}
use Rattle.tac_ir.specs.Meaning.{Running, behind_turn, back, code_at}
use Rattle.tac_ir.specs.Temps.{behind}
use Rattle.tac_ir.specs.declared.code.Tac.{Tac}
use Rattle.tac_ir.specs.declared.code.TacInstr.{TacInstr}
use Rattle.tac_ir.specs.declared.code.TacKind.{TacKind}
use Rattle.lower_runs.specs.States.{Scene, IsScene, IsOf, IsOnward, Agrees}
use Rattle.lower_runs.specs.Operating.{Code}
use Rattle.lower_runs.specs.Expressions.{Mark, same}
use Rattle.lower_runs.specs.Statements.{Exits, IsBeside, stands_before, count_labels, count_statements}
use Rattle.lower_runs.specs.Simulation.{IsPiece, HasRoom, goes}

-- a label is one that was made before
abbrev pub IsBefore : Mark → Option ℕ → Type 0
IsBefore m None = Unit {0}
IsBefore m (Some l) = l < m.labels

-- `break` and `continue` lead to labels that were made before
pub record AreBefore (m : Mark) (x : Exits) : Type 0 where
  pub breaks : IsBefore m x.breaks
  pub continues : IsBefore m x.continues

-- the value of a return, where a function gives one
abbrev pub given_back : Option TacKind → Value → Value
given_back None v = nothing
given_back (Some k) v = v

abbrev pub IsGiven : Option TacKind → Value → Type 0
IsGiven None v = Unit {0}
IsGiven (Some k) v = IsOf (kind_of k) v

module _ (ops : Operations Store) (w : World) (t : Tac) (p : Typed) (objects : ℕ → List ℕ) (r : Running)
    (call : ℕ → List Value → Then Store Value) (result : Option TacKind) where
  -- a state that a statement comes to, in the same call
  pub record Came (s u : State Store) : Type 0 where
    pub left : u.left ≤ s.left
    pub first : u.first ≡ s.first
    pub frame : u.frame ≡ s.frame
    pub onward : IsOnward ops s.mem u.mem

  -- the code of the function that runs
  abbrev pub whole : List TacInstr
  whole = code_at ops w t p objects r.fun

  -- the labels of a piece are found in the whole code where they are found in the piece
  abbrev pub Known : Mark → Mark → List TacInstr → Type 0
  Known m n list = (o : ℕ) → m.labels ≤ o → o < n.labels → behind o whole ≡ behind o list

  -- What follows a statement goes on, from the states that it comes to, with the rest, behind one of the labels, or in
  -- the caller
  pub record Follows (g : Scene) (x : Exits) (rest : List TacInstr) (s : State Store) (l : Flow → State Store → Fate) :
      Type 0 where
    pub goes_on : (u : State Store) (us : List (Option Value)) → Came s u → Agrees ops g None u us →
        l Goes u ≡ goes ops w t p objects r call g rest u us
    pub breaks : (b : ℕ) → x.breaks ≡ Some b → (u : State Store) (us : List (Option Value)) → Came s u →
        Agrees ops g None u us → l Breaks u ≡ goes ops w t p objects r call g (behind b rest) u us
    pub continues : (b : ℕ) → x.continues ≡ Some b → (u : State Store) (us : List (Option Value)) → Came s u →
        Agrees ops g None u us → l Continues u ≡ goes ops w t p objects r call g (behind b rest) u us
    pub returns : (v : Value) (u : State Store) (us : List (Option Value)) → Came s u → IsGiven result v
        → l (Returns v) u ≡ back ops w t p objects (behind_turn ops w t p objects u.left)
        (given_back result v) r.fun r.callers (record u { vars = us })

  pub record StatementRuns (g : Scene) (x : Exits) (a : St) (m n : Mark) (c : Code) : Type 0 where
    pub piece : IsPiece m n c
    pub runs : (s : State Store) (ts : List (Option Value)) (l : Flow → State Store → Fate) (rest : List TacInstr) →
        HasRoom g m n → AreBefore m x → Known m n (c rest) → Agrees ops g None s ts → Follows g x rest s l
        → exec ops w call a s l ≡ goes ops w t p objects r call g (c rest) s ts

  pub record StatementsRun (g : Scene) (x : Exits) (ss : Sts) (m n : Mark) (c : Code) : Type 0 where
    pub piece : IsPiece m n c
    pub runs : (s : State Store) (ts : List (Option Value)) (l : Flow → State Store → Fate) (rest : List TacInstr) →
        HasRoom g m n → AreBefore m x → Known m n (c rest) → Agrees ops g None s ts → Follows g x rest s l
        → execs ops w call ss s l ≡ goes ops w t p objects r call g (c rest) s ts

  -- a loop's test, if there is one, goes behind a label where it is false; and its step
  pub record TestRuns (g : Scene) (o : Option (Pos × Kind × Ex)) (label : ℕ) (m n : Mark) (c : Code) : Type 0 where
    pub piece : IsPiece m n c
    pub runs : (s : State Store) (ts : List (Option Value)) (l : Bool → State Store → Fate) (rest : List TacInstr) →
        HasRoom g m n → label < m.labels → Agrees ops g None s ts
        → ((b : Bool) (u : State Store) (us : List (Option Value)) → Came s u → Agrees ops g None u us →
        l b u ≡ goes ops w t p objects r call g (if same false b then behind label rest else rest) u us)
        → test_of ops w call o s l ≡ goes ops w t p objects r call g (c rest) s ts

  pub record StepRuns (g : Scene) (o : Option Ex) (m n : Mark) (c : Code) : Type 0 where
    pub piece : IsPiece m n c
    pub runs : (s : State Store) (ts : List (Option Value)) (l : Unit {0} → State Store → Fate) (rest : List TacInstr) →
        HasRoom g m n → Agrees ops g None s ts
        → ((u : State Store) (us : List (Option Value)) → Came s u → Agrees ops g None u us →
        l tt u ≡ goes ops w t p objects r call g rest u us) →
        step_of ops w call o s l ≡ goes ops w t p objects r call g (c rest) s ts

  -- ---- blocks

  -- A block is entered from one scene to another, and left
  pub record EnterRuns (g : Scene) (ds : List Declared) (h : Scene) (c : Code) : Type 0 where
    pub scene : IsScene h
    pub fixed : h.fixed ≡ g.fixed
    pub size : h.size ≡ g.size
    pub plain : (o : ℕ) (rest : List TacInstr) → behind o (c rest) ≡ behind o rest
    pub home : (x : ℕ) → h.home x ≡ g.home x
    pub spots : (n t : ℕ) → g.spot n ≡ Some t → h.spot n ≡ Some t
    pub outward : (s : State Store) (ts : List (Option Value)) → Agrees ops h None s ts → Agrees ops g None s ts
    pub leaves : (s : State Store) (l : Unit {0} → State Store → Fate) → leave ops w ds s l ≡ l tt s
    pub runs : (s : State Store) (ts : List (Option Value)) (l : Unit {0} → State Store → Fate) (rest : List TacInstr) →
        Agrees ops g None s ts
        → ((u : State Store) (us : List (Option Value)) → Came s u → Agrees ops h None u us →
        ((j : ℕ) → IsBeside h ds j → slice_get us j ≡ slice_get ts j) →
        l tt u ≡ goes ops w t p objects r call h rest u us) →
        enter ops w ds s l ≡ goes ops w t p objects r call g (c rest) s ts

  -- ---- the body of a `switch`

  -- Statements, from their start on, and from before the one with a number, where a label leads that stands there; the
  -- labels have numbers of their own, from one on
  pub record BodyRuns (g : Scene) (x : Exits) (label : ℕ) (ls : List Label) (number : ℕ) (ss : Sts) (m n : Mark)
      (c : Code) : Type 0 where
    pub temps : m.temps ≤ n.temps
    pub labels : m.labels ≤ n.labels
    pub own : (o : ℕ) (rest : List TacInstr) → (m.labels ≤ o → n.labels ≤ o) →
        (label ≤ o → label + count_labels ls ≤ o) → behind o (c rest) ≡ behind o rest
    pub runs : (s : State Store) (ts : List (Option Value)) (l : Flow → State Store → Fate) (rest : List TacInstr) →
        HasRoom g m n → AreBefore (record m { labels = label }) x → Known m n (c rest) → Agrees ops g None s ts →
        Follows g x rest s l → execs ops w call ss s l ≡ goes ops w t p objects r call g (c rest) s ts
    pub enters : (i j : ℕ) (b : Label) → slice_get ls i ≡ Some b → stands_before b ≡ number + j →
        j ≤ count_statements ss → (s : State Store) (ts : List (Option Value)) (l : Flow → State Store → Fate)
        (rest : List TacInstr) → HasRoom g m n → AreBefore (record m { labels = label }) x → Known m n (c rest) →
        Agrees ops g None s ts → Follows g x rest s l
        → execs_from ops w call ss j s l ≡ goes ops w t p objects r call g (behind (label + i) (c rest)) s ts
