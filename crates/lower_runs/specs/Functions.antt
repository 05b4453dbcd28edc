-- The entry and the end of a function: their code, and what it does.
use Rattle.std.specs.Prelude.{◌≡◌, ℕ, ◌+◌, ◌≤◌, ◌<◌, ◌==◌, List, [], ◌∷◌, length, Option, Some, None, slice_get}
use Rattle.std.specs.Prelude.{if◌then◌else◌}
use Rattle.ck_base.specs.World.{World, GivesBytes}
use Rattle.ck_base.specs.declared.positions.Pos.{Pos}
use Rattle.c_tree.specs.declared.typed.Typed.{Typed}
use Rattle.obj_mem.specs.Values.{Value}
use Rattle.cheri_c_sem.specs.Calls.{pass, result_of, close, back, in_frame}
use Rattle.cheri_c_sem.specs.Depth.{deep}
use Rattle.cheri_c_sem.specs.Modes.{Store}
use Rattle.cheri_c_sem.specs.Operations.{Operations}
use Rattle.cheri_c_sem.specs.Statements.{Flow}
use Rattle.cheri_c_sem.specs.Steps.{State, Fate, Then, ◌>>=◌, ◌>>◌, give}
use Rattle.cheri_c_sem.specs.Tree.{Parameter, In_variable, In_object, At_end, Gives_nothing, Gives_zero, Lacks, Fun}
use Rattle.tac_ir.specs.Effects.{kind_of}
use Rattle.tac_ir.specs.Meaning.{Caller, Running, kinds_of, code_of, name_of}
use Rattle.tac_ir.specs.declared.code.Tac.{Tac}
use Rattle.tac_ir.specs.declared.code.TacFun.{TacFun}
use Rattle.tac_ir.specs.declared.code.TacInstr.{TacInstr}
use Rattle.tac_ir.specs.declared.code.TacInstr.TheVariants as instr
use Rattle.tac_ir.specs.declared.code.TacKind.{TacKind}
use Rattle.lower_runs.specs.States.{Home, Scene, IsScene, IsOnward, IsPlaced, Agrees}
use Rattle.lower_runs.specs.Sound.{IsSound}
use Rattle.lower_runs.specs.Frames.{HasFrames}
use Rattle.lower_runs.specs.Operating.{Code}
use Rattle.lower_runs.specs.Expressions.{Mark, Signature, int_kind}
use Rattle.lower_runs.specs.Statements.{with_spot, IsStatement}
use Rattle.lower_runs.specs.Simulation.{goes}
use Rattle.lower_runs.specs.Following.{given_back, IsGiven, Came, Follows}
use Rattle.lower_runs.specs.Calling.{AreOf, Back, backs, entered, CallsRun}

-- 0 or null of its kind, where the function gives a value
abbrev pub end_code : Option TacKind → ℕ → List TacInstr
end_code None at = instr.Return None ∷ []
end_code (Some k) at = instr.Const at k 0 ∷ instr.Return (Some at) ∷ []

-- the value of an end has a temp
abbrev pub HasEndTemp : Option TacKind → (at size : ℕ) → Type 0
HasEndTemp None at size = Unit {0}
HasEndTemp (Some k) at size = at < size

-- what a function gives whose body was gone through has the kind that it gives, if it gives a value
abbrev pub IsEnd : Option TacKind → At_end → Type 0
IsEnd None Gives_nothing = Unit {0}
IsEnd None Gives_zero = ⊥
IsEnd None (Lacks j) = Unit {0}
IsEnd (Some k) Gives_nothing = ⊥
IsEnd (Some k) Gives_zero = k ≡ int_kind
IsEnd (Some k) (Lacks j) = kind_of k ≡ j

-- what is left to do behind a function's body
abbrev pub behind_body : Operations Store → World → Fun → State Store → (Value → State Store → Fate) → Flow →
    State Store → Fate
behind_body ops w f caller k flow = λ u. (do
  v ← result_of ops w f flow
  close ops w f
  back ops w caller
  give v) u k

-- Behind a body, which no jump leaves, the end of its function goes back to the caller, or ends the run where there is
-- none, over all operations that answer as those under a map do
abbrev pub FunctionsEnd : Type 0
FunctionsEnd =
    (ops : Operations Store) → IsPlaced ops →
    (w : World) (t : Tac) (p : Typed) (objects : ℕ → List ℕ) (call : ℕ → List Value → Then Store Value)
    (signs : ℕ → Signature) (n : ℕ) (callers : List Caller) (g : Scene) → IsScene g → (f : Fun) (at : ℕ) →
    HasEndTemp (signs n).gives at g.size → IsEnd (signs n).gives f.at_end → f.objects ≡ objects n
    → (caller s : State Store) → IsOnward ops caller.mem s.mem → s.left ≤ caller.left
    → (k : Value → State Store → Fate)
    → ((v : Value) (u : State Store) → IsGiven (signs n).gives v → Back ops w t p objects call signs caller u →
    k v u ≡ backs ops w t p objects call signs callers (given_back (signs n).gives v) u)
    → Follows ops w t p objects (record { fun = n; callers = callers }) call (signs n).gives g
    (record { breaks = None; continues = None }) (end_code (signs n).gives at) s (behind_body ops w f caller k)

-- ---- the entry

-- the value of a variable stands in a temp from here on
abbrev pub with_home : ℕ → Home → Scene → Scene
with_home x h g = record g { home = λ y. if y == x then Some h else g.home y }

-- Parameters, from number i on, whose arguments are in the temps of these numbers: a variable has its home there; an
-- object is entered, and the argument is stored in it
pub data AreTaken (q : Pos) : Scene → ℕ → List Parameter → List TacKind → Scene → Code → Type 0 where
  none : {g : Scene} {i : ℕ} → AreTaken q g i [] [] g (λ rest. rest)
  variable : {g h : Scene} {i x : ℕ} {k : TacKind} {ps : List Parameter} {ks : List TacKind} {c : Code} →
      IsScene (with_home x (record { temp = i; kind = k }) g) →
      AreTaken q (with_home x (record { temp = i; kind = k }) g) (i + 1) ps ks h c →
      AreTaken q g i (In_variable x ∷ ps) (k ∷ ks) h c
  object : {g h : Scene} {i n at : ℕ} {k : TacKind} {ps : List Parameter} {ks : List TacKind} {c : Code} →
      IsScene (with_spot n at g) → i + length (k ∷ ks) ≤ at →
      AreTaken q (with_spot n at g) (i + 1) ps ks h c
      → AreTaken q g i (In_object n (kind_of k) ∷ ps) (k ∷ ks) h
      (λ rest. instr.Zero n ∷ instr.Local at n ∷ instr.Store at i k q ∷ c rest)

-- arguments stand in the temps from number i on
abbrev pub AreFrom : ℕ → List Value → List (Option Value) → Type 0
AreFrom i [] us = Unit {0}
AreFrom i (v ∷ vs) us = (slice_get us i ≡ Some (Some v)) × AreFrom (i + 1) vs us

-- Arguments come into parameters as the code at a function's entry takes them
abbrev pub ArgumentsAreTaken : Type 0
ArgumentsAreTaken =
    (ops : Operations Store) → IsPlaced ops →
    (w : World) (t : Tac) (p : Typed) (objects : ℕ → List ℕ) (r : Running) (call : ℕ → List Value → Then Store Value)
    (result : Option TacKind) (q : Pos) (g h : Scene) (i : ℕ) (ps : List Parameter) (ks : List TacKind) (c : Code) →
    IsScene g → AreTaken q g i ps ks h c
    → (s : State Store) (ts : List (Option Value)) (vs : List Value) (l : Unit {0} → State Store → Fate)
    (rest : List TacInstr) → Agrees ops g None s ts → AreOf ks vs → AreFrom i vs ts
    → ((u : State Store) (us : List (Option Value)) → Came ops w t p objects r call result s u →
    Agrees ops h None u us → l tt u ≡ goes ops w t p objects r call h rest u us)
    → pass ops w q ps vs s l ≡ goes ops w t p objects r call g (c rest) s ts

-- ---- functions

-- At the entry no parameter has its place yet, and every other variable that is no object is 0 or null in its home
pub record IsStart (kinds takes : List TacKind) (f : Fun) (limit : ℕ) (g : Scene) : Type 0 where
  pub scene : IsScene g
  pub size : g.size ≡ length kinds
  pub count : g.count ≡ f.vars
  pub objects : g.objects ≡ length f.objects
  pub limited : g.limit ≡ limit
  pub few : length takes ≤ length kinds
  pub spots : (n t : ℕ) → g.spot n ≡ Some t → ⊥
  pub homes : (x : ℕ) (h : Home) → g.home x ≡ Some h →
      (length takes ≤ h.temp) × (slice_get kinds h.temp ≡ Some h.kind)

-- The code of a function with a number: it takes the arguments, goes through the body, and ends
pub record IsFunction (p : Typed) (signs : ℕ → Signature) (it : Option TacFun) (n : ℕ) (f : Fun) (limit : ℕ) : Type 0
  where
    pub entry : Scene
    pub inner : Scene
    pub take : Code
    pub body : Code
    pub from : Mark
    pub to : Mark
    pub start : IsStart (kinds_of it) (signs n).takes f limit entry
    pub taken : AreTaken f.name entry 0 f.params (signs n).takes inner take
    pub statement : IsStatement p signs (kinds_of it) (signs n).gives inner
        (record { breaks = None; continues = None }) f.body from to body
    pub low : entry.fixed ≤ from.temps
    pub high : to.temps ≤ entry.size
    pub at : ℕ
    pub room : HasEndTemp (signs n).gives at entry.size
    pub code : code_of it ≡ take (body (end_code (signs n).gives at))
    pub ends : IsEnd (signs n).gives f.at_end
    pub name : name_of it ≡ f.name

-- A function runs as its call means, given calls with fewer turns
abbrev pub FunctionsRun : Type 0
FunctionsRun =
    (ops : Operations Store) → IsPlaced ops → (w : World) → GivesBytes w →
    (t : Tac) (p : Typed) (objects : ℕ → List ℕ) → HasFrames ops objects →
    (call : ℕ → List Value → Then Store Value) (signs : ℕ → Signature) (funs : List Fun) (n : ℕ) (f : Fun)
    (limit : ℕ) → f.objects ≡ objects n → IsFunction p signs (slice_get t.funs n) n f limit →
    CallsRun ops w t p objects call signs limit →
    (vs : List Value) (s : State Store) (callers : List Caller) (k : Value → State Store → Fate) →
    s.left ≤ limit → IsSound s.mem → s.frame ≤ ops.stack_top → AreOf (signs n).takes vs
    → ((v : Value) (u : State Store) → IsGiven (signs n).gives v → Back ops w t p objects call signs s u →
    k v u ≡ backs ops w t p objects call signs callers (given_back (signs n).gives v) u)
    → in_frame ops w funs call n (Some f) vs s k
    ≡ entered ops w t p objects call signs (ops.enter n s.frame) n vs (record { fun = n; callers = callers }) s

-- ---- all calls

-- Where each function of a program has code that stands for it, calls as deep as the turns allow run
abbrev pub CallsAreRun : Type 0
CallsAreRun =
    (ops : Operations Store) → IsPlaced ops → (w : World) → GivesBytes w →
    (t : Tac) (p : Typed) (objects : ℕ → List ℕ) → HasFrames ops objects → (signs : ℕ → Signature) (funs : List Fun)
    → ((limit n : ℕ) → n < length p.funs → (f : Fun) × (slice_get funs n ≡ Some f) × (f.objects ≡ objects n) ×
    IsFunction p signs (slice_get t.funs n) n f limit)
    → (limit : ℕ) → CallsRun ops w t p objects (deep ops w funs) signs limit
