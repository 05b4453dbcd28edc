-- The simulation: from states that agree, the code of a part of a function, in front of any instructions, comes to what
-- the part means, in front of anything that those instructions come to.
use Rattle.std.specs.Prelude.{◌≡◌, ◌∷◌, ℕ, ◌+◌, ◌≤◌, ◌<◌, ◌&&◌, Bool, true, List, length, Option, Some, None}
use Rattle.std.specs.Prelude.{slice_get, slice_set, if◌then◌else◌}
use Rattle.ck_base.specs.World.{World}
use Rattle.ck_base.specs.declared.positions.Pos.{Pos}
use Rattle.c_tree.specs.declared.typed.Typed.{Typed}
use Rattle.obj_mem.specs.Values.{Value}
use Rattle.cheri_c_sem.specs.Modes.{Store}
use Rattle.cheri_c_sem.specs.Meaning.{Place, At, test, value_of, place_of}
use Rattle.cheri_c_sem.specs.Operations.{Operations}
use Rattle.cheri_c_sem.specs.Steps.{State, Fate, Then, ◌>>=◌}
use Rattle.cheri_c_sem.specs.Tree.{Ex, Exs}
use Rattle.tac_ir.specs.Effects.{kind_of}
use Rattle.tac_ir.specs.Meaning.{Running, Runs, turns, kinds_of}
use Rattle.tac_ir.specs.Temps.{behind}
use Rattle.tac_ir.specs.declared.code.Tac.{Tac}
use Rattle.tac_ir.specs.declared.code.TacInstr.{TacInstr}
use Rattle.tac_ir.specs.declared.code.TacInstr.TheVariants as instr
use Rattle.tac_ir.specs.declared.code.TacKind.{TacKind}
use Rattle.lower_runs.specs.States.{Scene, Home, IsFree, IsOf, Agrees, Went}
use Rattle.lower_runs.specs.Sound.{IsPointer, IsSound}
use Rattle.lower_runs.specs.Operating.{Code}
use Rattle.lower_runs.specs.Expressions.{Mark, Target, target_mark, target_code, target_temp, spares, spare}
use Rattle.lower_runs.specs.Expressions.{position_in, same}

-- code between two numbers of temps and labels: a label that is not its own is not found in it
pub record IsPiece (m n : Mark) (c : Code) : Type 0 where
  pub temps : m.temps ≤ n.temps
  pub labels : m.labels ≤ n.labels
  pub own : (o : ℕ) (rest : List TacInstr) → (m.labels ≤ o → n.labels ≤ o) → behind o (c rest) ≡ behind o rest

-- its temps are those of expressions, and there are so many
pub record HasRoom (g : Scene) (m n : Mark) : Type 0 where
  pub low : g.fixed ≤ m.temps
  pub high : n.temps ≤ g.size

-- a temp that a value may come into: it stands for no object
pub record IsTarget (g : Scene) (m : Mark) (to : ℕ) : Type 0 where
  pub there : to < m.temps
  pub free : IsFree g to

-- A temp whose value stays, whatever expressions do that spare some of the variables: one between two numbers, the home
-- of a variable that they spare, or that of a pointer to an object
pub data Stays (g : Scene) (later : Exs) (from below : ℕ) : ℕ → Type 0 where
  own : {t : ℕ} → from ≤ t → t < below → Stays g later from below t
  variable : {x : ℕ} {h : Home} → g.home x ≡ Some h → spare x later ≡ true → Stays g later from below h.temp
  object : {o t : ℕ} → g.spot o ≡ Some t → Stays g later from below t

-- a temp below a number has a value of a kind
pub record Holds (limit : ℕ) (k : TacKind) (at : ℕ) (v : Value) (us : List (Option Value)) : Type 0 where
  pub value : slice_get us at ≡ Some (Some v)
  pub typed : IsOf (kind_of k) v
  pub below : at < limit

module _ (ops : Operations Store) (g : Scene) where
  -- ---- what a part leaves behind: of an expression without its value; and with it, in a temp that was given, or in
  -- one that stays

  pub record Done (keeps : ℕ → Bool) (m : Mark) (s : State Store) (ts : List (Option Value)) (u : State Store)
      (us : List (Option Value)) : Type 0 where
    pub agrees : Agrees ops g None u us
    pub went : Went ops g keeps m.temps None s ts u us

  pub record Valued (k : TacKind) (keeps : ℕ → Bool) (to : ℕ) (m : Mark) (s : State Store) (ts : List (Option Value))
      (v : Value) (u : State Store) (us : List (Option Value)) : Type 0 where
    pub agrees : Agrees ops g (Some to) u us
    pub went : Went ops g keeps m.temps (Some to) s ts u us
    pub value : slice_get us to ≡ Some (Some v)
    pub typed : IsOf (kind_of k) v

  pub record Held (k : TacKind) (later : Exs) (keeps : ℕ → Bool) (at : ℕ) (m n : Mark) (s : State Store)
      (ts : List (Option Value)) (v : Value) (u : State Store) (us : List (Option Value)) : Type 0 where
    pub done : Done keeps m s ts u us
    pub value : slice_get us at ≡ Some (Some v)
    pub typed : IsOf (kind_of k) v
    pub stays : Stays g later m.temps n.temps at

  -- in a temp that was given, or in one that has it already
  pub record HeldIn (k : TacKind) (keeps : ℕ → Bool) (to at : ℕ) (m n : Mark) (s : State Store)
      (ts : List (Option Value))
      (v : Value) (u : State Store) (us : List (Option Value)) : Type 0 where
    pub agrees : Agrees ops g (Some to) u us
    pub went : Went ops g keeps m.temps (Some to) s ts u us
    pub holds : Holds n.temps k at v us

  -- where a place was asked for: the pointer to it, and its position
  pub record Reached (e : Ex) (to : ℕ) (m : Mark) (s : State Store) (ts : List (Option Value)) (q : Pos) (v : Value)
      (u : State Store) (us : List (Option Value)) : Type 0 where
    pub agrees : Agrees ops g (Some to) u us
    pub went : Went ops g (λ x. spares x e) m.temps (Some to) s ts u us
    pub value : slice_get us to ≡ Some (Some v)
    pub pointer : IsPointer v
    pub position : (o : Pos) → position_in e ≡ Some o → q ≡ o

  pub record Pointed (e : Ex) (later : Exs) (at : ℕ) (m n : Mark) (s : State Store) (ts : List (Option Value)) (q : Pos)
      (v : Value) (u : State Store) (us : List (Option Value)) : Type 0 where
    pub done : Done (λ x. spares x e) m s ts u us
    pub value : slice_get us at ≡ Some (Some v)
    pub pointer : IsPointer v
    pub position : (o : Pos) → position_in e ≡ Some o → q ≡ o
    pub stays : Stays g later m.temps n.temps at

  -- the value of an assignment, where it is asked for
  abbrev pub Assigned : TacKind → Ex → Option ℕ → Mark → State Store → List (Option Value) → Value → State Store →
      List (Option Value) → Type 0
  Assigned k e None m s ts v u us = Done (λ x. spares x e) m s ts u us
  Assigned k e (Some to) m s ts v u us = Valued k (λ x. spares x e) to m s ts v u us

abbrev pub IsTargetIfAny : Scene → Mark → Option ℕ → Type 0
IsTargetIfAny g m None = Unit {0}
IsTargetIfAny g m (Some to) = IsTarget g m to

module _ (ops : Operations Store) (w : World) (t : Tac) (p : Typed) (objects : ℕ → List ℕ) (r : Running)
    (call : ℕ → List Value → Then Store Value) (g : Scene) where
  -- instructions from their front on, in the function that runs, from a state whose variables are temps
  abbrev pub goes : List TacInstr → State Store → List (Option Value) → Fate
  goes is s ts = turns ops w t p objects s.left is Runs r (record s { vars = ts })

  abbrev pub kinds : List TacKind
  kinds = kinds_of (slice_get t.funs r.fun)

  -- ---- the code of an expression does what the expression means

  pub record ValueRuns (k : TacKind) (e : Ex) (to : ℕ) (m n : Mark) (c : Code) : Type 0 where
    pub piece : IsPiece m n c
    pub runs : (s : State Store) (ts : List (Option Value)) (l : Value → State Store → Fate) (rest : List TacInstr) →
        HasRoom g m n → IsTarget g m to → Agrees ops g None s ts
        → ((v : Value) (u : State Store) (us : List (Option Value)) →
        Valued ops g k (λ x. spares x e) to m s ts v u us →
        l v u ≡ goes rest u us)
        → value_of ops w call e s l ≡ goes (c rest) s ts

  pub record OperandRuns (later : Exs) (k : TacKind) (e : Ex) (at : ℕ) (m n : Mark) (c : Code) : Type 0 where
    pub piece : IsPiece m n c
    pub runs : (s : State Store) (ts : List (Option Value)) (l : Value → State Store → Fate) (rest : List TacInstr) →
        HasRoom g m n → Agrees ops g None s ts
        → ((v : Value) (u : State Store) (us : List (Option Value)) →
        Held ops g k later (λ x. spares x e) at m n s ts v u us → l v u ≡ goes rest u us)
        → value_of ops w call e s l ≡ goes (c rest) s ts

  pub record OperandInRuns (k : TacKind) (e : Ex) (to at : ℕ) (m n : Mark) (c : Code) : Type 0 where
    pub piece : IsPiece m n c
    pub runs : (s : State Store) (ts : List (Option Value)) (l : Value → State Store → Fate) (rest : List TacInstr) →
        HasRoom g m n → IsTarget g m to → Agrees ops g None s ts
        → ((v : Value) (u : State Store) (us : List (Option Value)) →
        HeldIn ops g k (λ x. spares x e) to at m n s ts v u us → l v u ≡ goes rest u us)
        → value_of ops w call e s l ≡ goes (c rest) s ts

  -- two operands, one after the other
  pub record PairHeld (j : TacKind) (a : Ex) (x : ℕ) (k : TacKind) (b : Ex) (y : ℕ) (m n : Mark) (s : State Store)
      (ts : List (Option Value)) (v z : Value) (u : State Store) (us : List (Option Value)) : Type 0 where
    pub done : Done ops g (λ i. spares i a && spares i b) m s ts u us
    pub left : Holds n.temps j x v us
    pub right : Holds n.temps k y z us

  pub record PairRuns (j : TacKind) (a : Ex) (x : ℕ) (k : TacKind) (b : Ex) (y : ℕ) (m n : Mark) (c : Code) :
      Type 0 where
    pub piece : IsPiece m n c
    pub runs : (s : State Store) (ts : List (Option Value)) (l : Value → Value → State Store → Fate)
        (rest : List TacInstr) →
        HasRoom g m n → Agrees ops g None s ts
        → ((v z : Value) (u : State Store) (us : List (Option Value)) → PairHeld j a x k b y m n s ts v z u us →
        l v z u ≡ goes rest u us)
        → value_of ops w call a s (λ v u. value_of ops w call b u (l v)) ≡ goes (c rest) s ts

  pub record EffectRuns (e : Ex) (m n : Mark) (c : Code) : Type 0 where
    pub piece : IsPiece m n c
    pub runs : (s : State Store) (ts : List (Option Value)) (l : Value → State Store → Fate) (rest : List TacInstr) →
        HasRoom g m n → Agrees ops g None s ts
        → ((v : Value) (u : State Store) (us : List (Option Value)) → Done ops g (λ x. spares x e) m s ts u us →
        l v u ≡ goes rest u us)
        → value_of ops w call e s l ≡ goes (c rest) s ts

  pub record PlaceEffectRuns (e : Ex) (m n : Mark) (c : Code) : Type 0 where
    pub piece : IsPiece m n c
    pub runs : (s : State Store) (ts : List (Option Value)) (l : Place → State Store → Fate) (rest : List TacInstr) →
        HasRoom g m n → Agrees ops g None s ts
        → ((v : Place) (u : State Store) (us : List (Option Value)) → Done ops g (λ x. spares x e) m s ts u us →
        l v u ≡ goes rest u us)
        → place_of ops w call e s l ≡ goes (c rest) s ts

  -- where the truth is `when` it goes on behind the label
  pub record ConditionRuns (k : TacKind) (e : Ex) (when : Bool) (label : ℕ) (m n : Mark) (c : Code) : Type 0 where
    pub piece : IsPiece m n c
    pub runs : (q : Pos) (s : State Store) (ts : List (Option Value)) (l : Bool → State Store → Fate)
        (rest : List TacInstr) →
        HasRoom g m n → label < m.labels → Agrees ops g None s ts
        → ((b : Bool) (u : State Store) (us : List (Option Value)) → Done ops g (λ x. spares x e) m s ts u us →
        l b u ≡ goes (if same when b then behind label rest else rest) u us)
        → (value_of ops w call e >>= test ops w q (kind_of k)) s l ≡ goes (c rest) s ts

  pub record PlaceRuns (e : Ex) (to : ℕ) (m n : Mark) (c : Code) : Type 0 where
    pub piece : IsPiece m n c
    pub runs : (s : State Store) (ts : List (Option Value)) (l : Place → State Store → Fate) (rest : List TacInstr) →
        HasRoom g m n → IsTarget g m to → Agrees ops g None s ts
        → ((q : Pos) (v : Value) (u : State Store) (us : List (Option Value)) → Reached ops g e to m s ts q v u us →
        l (At q v) u ≡ goes rest u us)
        → place_of ops w call e s l ≡ goes (c rest) s ts

  pub record PointerRuns (later : Exs) (e : Ex) (at : ℕ) (m n : Mark) (c : Code) : Type 0 where
    pub piece : IsPiece m n c
    pub runs : (s : State Store) (ts : List (Option Value)) (l : Place → State Store → Fate) (rest : List TacInstr) →
        HasRoom g m n → Agrees ops g None s ts
        → ((q : Pos) (v : Value) (u : State Store) (us : List (Option Value)) →
        Pointed ops g e later at m n s ts q v u us →
        l (At q v) u ≡ goes rest u us)
        → place_of ops w call e s l ≡ goes (c rest) s ts

  pub record AssignmentRuns (k : TacKind) (e : Ex) (to : Option ℕ) (m n : Mark) (c : Code) : Type 0 where
    pub piece : IsPiece m n c
    pub runs : (s : State Store) (ts : List (Option Value)) (l : Value → State Store → Fate) (rest : List TacInstr) →
        HasRoom g m n → IsTargetIfAny g m to → Agrees ops g None s ts
        → ((v : Value) (u : State Store) (us : List (Option Value)) → Assigned ops g k e to m s ts v u us →
        l v u ≡ goes rest u us)
        → value_of ops w call e s l ≡ goes (c rest) s ts

  -- ---- operations on values that are in temps

  -- temps change from a number on
  pub record Scratched (from : ℕ) (us vs : List (Option Value)) : Type 0 where
    pub room : length vs ≡ length us
    pub same : (j : ℕ) → j < from → slice_get vs j ≡ slice_get us j

  -- The code of an operation gives what the operation means, in a temp, where those from a number on are its own
  pub record Operated (k : TacKind) (to from : ℕ) (part : Then Store Value) (d : Code) (u : State Store)
      (us : List (Option Value)) : Type 0 where
    pub value : Value
    pub typed : IsOf (kind_of k) value
    pub temps : List (Option Value)
    pub scratched : Scratched from us temps
    pub means : (l : Value → State Store → Fate) → part u l ≡ l value u
    pub runs : (rest : List TacInstr) → goes (d rest) u us ≡ goes rest u (slice_set temps to (Some value))

  pub record UnaryRuns (j k : TacKind) (to x from more : ℕ) (part : Value → Then Store Value) (d : Code) : Type 0 where
    pub plain : (o : ℕ) (rest : List TacInstr) → behind o (d rest) ≡ behind o rest
    pub runs : (v : Value) (u : State Store) (us : List (Option Value)) → Holds from j x v us →
        from + more ≤ length us →
        IsSound u.mem → Operated k to from (part v) d u us

  pub record BinaryRuns (i j k : TacKind) (to x y from more : ℕ) (part : Value → Value → Then Store Value) (d : Code) :
      Type 0 where
    pub plain : (o : ℕ) (rest : List TacInstr) → behind o (d rest) ≡ behind o rest
    pub runs : (v z : Value) (u : State Store) (us : List (Option Value)) → Holds from i x v us → Holds from j y z us →
        from + more ≤ length us → IsSound u.mem → Operated k to from (part v z) d u us

  -- ---- copies of structs and unions

  -- the last step of a copy, from a place whose pointer is in a temp, goes on alike
  abbrev pub Finishes : (to : Target) (q : Pos) (bytes unit : ℕ) (keeps : ℕ → Bool) (m : Mark) (s : State Store)
      (ts : List (Option Value)) (last : Place → Then Store (Unit {0})) (l : Unit {0} → State Store → Fate) → Type 0
  Finishes to q bytes unit keeps m s ts last l =
      (o : Pos) (v : Value) (at : ℕ) (k : Mark) (u : State Store) (us : List (Option Value)) (rest : List TacInstr) →
      Done ops g keeps m s ts u us → m.temps ≤ k.temps → (target_mark to k).temps ≤ g.size → at < k.temps →
      slice_get us at ≡ Some (Some v)
      → ((z : State Store) (zs : List (Option Value)) → Done ops g (λ x. true) k u us z zs → l tt z ≡ goes rest z zs) →
      last (At o v) u l ≡ goes (target_code to k (instr.CopyUnits at (target_temp to k) bytes unit o q ∷ rest)) u us

  -- the copy from the place that an expression designates, whatever its last step means
  pub record CopyRuns (to : Target) (q : Pos) (bytes unit : ℕ) (e : Ex) (m n : Mark) (c : Code) : Type 0 where
    pub piece : IsPiece m n c
    pub runs : (last : Place → Then Store (Unit {0})) (s : State Store) (ts : List (Option Value))
        (l : Unit {0} → State Store → Fate) (rest : List TacInstr) → HasRoom g m n → Agrees ops g None s ts →
        Finishes to q bytes unit (λ x. spares x e) m s ts last l
        → ((u : State Store) (us : List (Option Value)) → Done ops g (λ x. spares x e) m s ts u us →
        l tt u ≡ goes rest u us) → place_of ops w call e s (λ from u. last from u l) ≡ goes (c rest) s ts
