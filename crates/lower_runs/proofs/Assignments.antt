-- Assignments.
use Rattle.std.proofs.Common.{◌≡◌, ◌≢◌, ℕ, ◌≤◌, ◌<◌, Bool, true, false, not, List, ◌∷◌, Option, Some}
use Rattle.std.proofs.Common.{None, refl, sym, ap, ◌∙◌, arith}
use Rattle.std.specs.Prelude.{slice_get, slice_set, ◌&&◌, ◌==◌}
use Rattle.std.proofs.lemmas.Bool.Decides.{nat_tests}
use Rattle.ck_base.specs.World.{World}
use Rattle.ck_base.specs.declared.positions.Pos.{Pos}
use Rattle.c_tree.specs.declared.typed.Typed.{Typed}
use Rattle.obj_mem.specs.Values.{Value}
use Rattle.cheri_c_sem.specs.Kinds.{bytes_of}
use Rattle.cheri_c_sem.specs.Modes.{Store}
use Rattle.cheri_c_sem.specs.Meaning.{At, value_of}
use Rattle.cheri_c_sem.specs.Meaning.{store}
use Rattle.cheri_c_sem.specs.Operations.{Operations}
use Rattle.cheri_c_sem.specs.Steps.{State, Fate, Then}
use Rattle.cheri_c_sem.specs.Tree.{Ex, Exs, Nil, Cons}
use Rattle.cheri_c_sem.specs.Tree.{Assign, Variable}
use Rattle.tac_ir.specs.Effects.{kind_of, held}
use Rattle.tac_ir.specs.Meaning.{Running, Runs, turns}
use Rattle.tac_ir.specs.Temps.{behind}
use Rattle.tac_ir.specs.declared.code.Tac.{Tac}
use Rattle.tac_ir.specs.declared.code.TacInstr.{TacInstr}
use Rattle.tac_ir.specs.declared.code.TacInstr.TheVariants as instr
use Rattle.tac_ir.specs.declared.code.TacKind.{TacKind}
use Rattle.lower_runs.specs.States.{Home, Scene, IsScene, IsOf, IsOnward, IsPlaced}
use Rattle.lower_runs.specs.Operating.{Code, transfer}
use Rattle.lower_runs.specs.Operating as operating
use Rattle.lower_runs.specs.Expressions as code
use Rattle.lower_runs.specs.Expressions.{Mark, more, labelled, spares, spare, position_in, int_kind, pointer_kind}
use Rattle.lower_runs.specs.Expressions.{is_still, is_still_place, is_variable, same, choice_code, guarded_code, IsBase}
use Rattle.lower_runs.specs.Expressions.{IsOwn}
use Rattle.lower_runs.specs.Simulation.{IsPiece, HasRoom, IsTarget, IsTargetIfAny, Done, Valued}
use Rattle.lower_runs.specs.Simulation.{Assigned, ValueRuns, OperandRuns, EffectRuns}
use Rattle.lower_runs.specs.Simulation.{PlaceEffectRuns, ConditionRuns, PlaceRuns, PointerRuns, AssignmentRuns, goes}
use Rattle.lower_runs.proofs.Agreement.{and_left, and_right, get_set_same, get_set_other, free_own, agrees_any}
use Rattle.lower_runs.proofs.Agreement.{agrees_own, agrees_memory, agrees_variable, went_less, went_memory, went_then}
use Rattle.lower_runs.proofs.Agreement.{stays, done_start, done_less, done_then, done_valued, done_labelled}
use Rattle.lower_runs.proofs.Labels.{nothing_own, both_own, then_own}
use Rattle.lower_runs.proofs.Steps.{same_answer}
use Rattle.lower_runs.proofs.Steps.{held_is, transfer_runs, lands}
use Rattle.lower_runs.proofs.Operations.{transfer_plain}

pub turned_test : (x y : ℕ) → (x == y) ≡ (y == x)
turned_test x y = by (y == x) refl
  where
    by : (b : Bool) → (y == x) ≡ b → (x == y) ≡ (y == x)
    by b e = grind (arith, nat_tests)

module _ (ops : Operations Store) (placed : IsPlaced ops) (w : World) (t : Tac) (p : Typed)
    (objects : ℕ → List ℕ) (r : Running) (call : ℕ → List Value → Then Store Value) (g : Scene)
    (scene : IsScene g) where
  abbrev run : List TacInstr → State Store → List (Option Value) → Fate
  run = goes ops w t p objects r call g

  abbrev Value_runs : (k : TacKind) (e : Ex) (to : ℕ) (m n : Mark) (c : Code) → Type 0
  Value_runs = ValueRuns ops w t p objects r call g

  abbrev Operand_runs : (later : Exs) (k : TacKind) (e : Ex) (at : ℕ) (m n : Mark) (c : Code) → Type 0
  Operand_runs = OperandRuns ops w t p objects r call g

  abbrev Effect_runs : (e : Ex) (m n : Mark) (c : Code) → Type 0
  Effect_runs = EffectRuns ops w t p objects r call g

  abbrev Place_effect_runs : (e : Ex) (m n : Mark) (c : Code) → Type 0
  Place_effect_runs = PlaceEffectRuns ops w t p objects r call g

  abbrev Condition_runs : (k : TacKind) (e : Ex) (when : Bool) (label : ℕ) (m n : Mark) (c : Code) → Type 0
  Condition_runs = ConditionRuns ops w t p objects r call g

  abbrev Place_runs : (e : Ex) (to : ℕ) (m n : Mark) (c : Code) → Type 0
  Place_runs = PlaceRuns ops w t p objects r call g

  abbrev Pointer_runs : (later : Exs) (e : Ex) (at : ℕ) (m n : Mark) (c : Code) → Type 0
  Pointer_runs = PointerRuns ops w t p objects r call g

  abbrev Assignment_runs : (k : TacKind) (e : Ex) (to : Option ℕ) (m n : Mark) (c : Code) → Type 0
  Assignment_runs = AssignmentRuns ops w t p objects r call g

  -- ---- the value is given out, where it is asked for

  pub given_out : (k : TacKind) (e : Ex) (to : Option ℕ) (at : ℕ) (m n : Mark) (s u : State Store)
      (ts us : List (Option Value))
      (v : Value) (rest : List TacInstr) (l : Value → State Store → Fate) → IsTargetIfAny g m to → HasRoom g m n →
      m.temps ≤ n.temps → IsOf (kind_of k) v
      → Done ops g (λ x. spares x e) m s ts u us → slice_get us at ≡ Some (Some v) →
      ((z : Value) (y : State Store) (ys : List (Option Value)) → Assigned ops g k e to m s ts z y ys →
      l z y ≡ run rest y ys) → l v u ≡ run (operating.give to at rest) u us
  given_out k e None at m n s u ts us v rest l target room le typed done is go = go v u us done
  given_out k e (Some to) at m n s u ts us v rest l target room le typed done is go =
      go v u (slice_set us to (Some v)) (lands ops w t p objects r call g scene k (λ x. spares x e)
      (λ x. spares x e) to m n s u ts us v (λ x z. z) target room le typed done)
      ∙ sym (transfer_runs ops w t p objects r call g scene to at rest u us v is)

  pub give_plain : (to : Option ℕ) (at o : ℕ) (rest : List TacInstr) →
      behind o (operating.give to at rest) ≡ behind o rest
  give_plain None at o rest = refl
  give_plain (Some to) at o rest = transfer_plain to at o rest

  -- ---- variables

  pub other_variable : (x y : ℕ) → not (y == x) ≡ true → x ≢ y
  other_variable x y h e = let q : (y == x) ≡ true = grind (arith, nat_tests) in no (y == x) h q
    where
      no : (b : Bool) → not b ≡ true → b ≡ true → ⊥
      no true i j = cc
      no false i j = cc

  -- a variable gets the value that was computed into its home
  pub variable_done : (x : ℕ) (h : Home) (f k : ℕ → Bool) (m : Mark) (s u : State Store) (ts us : List (Option Value))
      (v : Value) → g.home x ≡ Some h → g.fixed ≤ m.temps → ((i : ℕ) → k i ≡ true → f i ≡ true) →
      ((i : ℕ) → k i ≡ true → i ≢ x)
      → Valued ops g h.kind f h.temp m s ts v u us →
      Done ops g k m s ts (record u { vars = slice_set u.vars x (Some v) }) us
  variable_done x h f k m s u ts us v home low kf away a = record {
    agrees = agrees_variable ops g scene x h u us v home a.value a.typed a.agrees;
    went = record {
      left = a.went.left;
      first = a.went.first;
      frame = a.went.frame;
      onward = a.went.onward;
      spared = λ i e. get_set_other u.vars x i (Some v) (away i e) ∙ a.went.spared i (kf i e);
      kept = λ j ge lt z. a.went.kept j ge lt (λ e. let below = scene.home_below x h home in absurd (omega arith));
    };
  }

  pub home_target : (x : ℕ) (h : Home) (m : Mark) → g.home x ≡ Some h → g.fixed ≤ m.temps → IsTarget g m h.temp
  home_target x h m home low =
      record { there = let lt = scene.home_below x h home in omega arith; free = λ n s e. scene.apart x n s h home e }

  pub variable_assignment : (k : TacKind) (b : Ex) (x at : ℕ) (to : Option ℕ) (q : Pos) (m n : Mark) (c : Code) →
      g.home x ≡ Some (record { temp = at; kind = k }) → Value_runs k b at m n c →
      Assignment_runs k (Assign (kind_of k) (Variable q x) b) to m n (λ rest. c (operating.give to at rest))
  variable_assignment k b x at to q m n c home h = record {
    piece = then_own m n n c (operating.give to at) (omega arith) refl (λ o rest. give_plain to at o rest) h.piece;
    runs = λ s ts l rest room target ag go.
        let place : Home = record { temp = at; kind = k } in
        h.runs s ts (λ v u. l v (record u { vars = slice_set u.vars x (Some v) })) (operating.give to at rest) room
        (home_target x place m home room.low) ag
        (λ v u us a. given_out k (Assign (kind_of k) (Variable q x) b) to at m n s
        (record u { vars = slice_set u.vars x (Some v) }) ts us v rest l target room h.piece.temps a.typed
        (variable_done x place (λ i. spares i b)
        (λ i. spares i (Assign (kind_of k) (Variable q x) b)) m s u ts us v home room.low
        (λ i e. and_right (not (i == x)) (spares i b) e)
        (λ i e. other_variable i x (ap not (turned_test x i) ∙ and_left (not (i == x)) (spares i b) e)) a) a.value go);
  }

  -- ---- objects

  -- what is stored at a place where the memory takes it
  pub stored : (k : TacKind) (at from : ℕ) (o q : Pos) (to v : Value) (u : State Store) (us : List (Option Value))
      (rest : List TacInstr) (next : State Store → Fate) → o ≡ q → IsOf (kind_of k) v →
      slice_get us at ≡ Some (Some to) →
      slice_get us from ≡ Some (Some v)
      → ((m : Store) → IsOnward ops u.mem m → next (record u { mem = m }) ≡ run rest (record u { mem = m }) us) →
      store ops w (kind_of k) (At o to) v u (λ z y. next y) ≡ run (instr.Store at from k q ∷ rest) u us
  stored k at from o q to v u us rest next same_place typed hat hfrom go =
      let after : Value → Value → Fate =
      λ x y. store ops w (kind_of k) (At q x) y (record u { vars = us })
      (λ z s. turns ops w t p objects u.left rest Runs r s) in
      ap (λ z. store ops w (kind_of k) (At z to) v u (λ z2 y. next y)) same_place
      ∙ same_answer q (ops.store u.mem to (bytes_of (kind_of k)) v) u us (λ m y. next (record y { mem = m }))
      (λ m y. turns ops w t p objects u.left rest Runs r (record y { mem = m }))
      (λ m is. go m (placed.store u.mem m to v (kind_of k) typed is))
      ∙ ap (λ z. after z v) (sym (held_is ops w t p objects r call g scene us at to hat))
      ∙ ap (after (held (slice_get us at))) (sym (held_is ops w t p objects r call g scene us from v hfrom))

  -- memory goes on
  pub done_memory : (f : ℕ → Bool) (m : Mark) (s u : State Store) (ts us : List (Option Value)) (z : Store) →
      IsOnward ops u.mem z → Done ops g f m s ts u us → Done ops g f m s ts (record u { mem = z }) us
  done_memory f m s u ts us z on a =
      record {
        agrees = agrees_memory ops g scene None u us z on a.agrees;
        went = went_memory ops g scene f m.temps None s u ts us z on a.went;
      }

  pub object_assignment : (k : TacKind) (a b : Ex) (at from : ℕ) (q : Pos) (l m n : Mark) (c d : Code) →
      position_in a ≡ Some q → Pointer_runs (Cons b Nil) a at l m c → Operand_runs Nil k b from m n d
      → Assignment_runs k (Assign (kind_of k) a b) None l n (λ rest. c (d (instr.Store at from k q ∷ rest)))
  object_assignment k a b at from q l m n c d position f h = record {
    piece = both_own l m n c (λ rest. d (instr.Store at from k q ∷ rest)) f.piece
        (then_own m n n d (λ rest. instr.Store at from k q ∷ rest) (omega arith) refl (λ o rest. refl) h.piece);
    runs = λ s ts next rest room target ag go.
        let low = room.low in let high = room.high in let lm = f.piece.temps in let mn = h.piece.temps in
        f.runs s ts (λ pl u. value_of ops w call b u (λ v z. store ops w (kind_of k) pl v z (λ i y. next v y)))
        (d (instr.Store at from k q ∷ rest)) (record { low = low; high = omega arith }) ag
        (λ o to u us one. h.runs u us (λ v z. store ops w (kind_of k) (At o to) v z (λ i y. next v y))
        (instr.Store at from k q ∷ rest) (record { low = omega arith; high = high }) one.done.agrees
        (λ v z zs two.
        let done = done_then ops g scene (λ i. spares i a) (λ i. spares i b) (λ i. spares i (Assign (kind_of k) a b))
        l m s u z ts us zs
        (λ i e. and_left (spares i a) (spares i b) (and_right (not (is_variable i a)) (spares i a && spares i b) e))
        (λ i e. and_right (spares i a) (spares i b)
        (and_right (not (is_variable i a)) (spares i a && spares i b) e)) lm one.done two.done in
        stored k at from o q to v z zs rest (next v) (one.position q position) two.typed
        (stays ops g scene (Cons b Nil) (λ i. spares i b) l.temps m.temps at None u z us zs to low one.stays
        (λ i e. and_left (spares i b) true e) (λ i e k. tt) one.done.agrees two.done.agrees two.done.went
        one.value) two.value
        (λ mem on. go v (record z { mem = mem }) zs
        (done_memory (λ i. spares i (Assign (kind_of k) a b)) l s z ts zs mem on done))));
  }

  -- ---- a temp of an expression's own

  pub own_temp : (to : Option ℕ) (at : ℕ) (m n : Mark) → IsOwn g to at m n → (l : Mark) → l.temps ≤ m.temps →
      g.fixed ≤ l.temps → IsTargetIfAny g l to →
      (g.fixed ≤ at) × (at < n.temps) × (m.temps ≤ n.temps) × (m.labels ≡ n.labels) ×
      ((i : ℕ) → l.temps ≤ i → i < m.temps → i ≢ at)
  own_temp to at m n (code.given {t = at2} ge) l le low target = (
    ge,
    (let lt = target.there in omega arith),
    omega arith,
    refl,
    λ i a b e. let lt = target.there in
        absurd (omega arith),
  )
  own_temp to at m n (code.fresh {m = m2}) l le low target =
      (omega arith, omega arith, omega arith, refl, λ i a b e. absurd (omega arith))

  pub own_apart : (to at : ℕ) (m n : Mark) → IsOwn g (Some to) at m n → (l : Mark) → l.temps ≤ m.temps → (i : ℕ) →
      i < l.temps → i ≢ to → i ≢ at
  own_apart to at m n (code.given {t = at2} ge) l le i lt ne = ne
  own_apart to at m n (code.fresh {m = m2}) l le i lt ne = λ e. absurd (omega arith)

  -- the value of an assignment to an object, where it is asked for
  pub object_value_assignment : (k : TacKind) (a b : Ex) (at from to : ℕ) (q : Pos) (l m n o : Mark) (c d : Code) →
      position_in a ≡ Some q → Pointer_runs (Cons b Nil) a at l m c → IsOwn g (Some to) from m n →
      Value_runs k b from n o d
      → Assignment_runs k (Assign (kind_of k) a b) (Some to) l o
      (λ rest. c (d (instr.Store at from k q ∷ transfer to from rest)))
  object_value_assignment k a b at from to q l m n o c d position f own h = record {
    piece = both_own l m o c (λ rest. d (instr.Store at from k q ∷ transfer to from rest)) f.piece
        (both_own m n o (λ rest. rest) (λ rest. d (instr.Store at from k q ∷ transfer to from rest)) (own_piece own)
        (then_own n o o d (λ rest. instr.Store at from k q ∷ transfer to from rest) (omega arith) refl
        (λ i rest. transfer_plain to from i rest) h.piece));
    runs = λ s ts next rest room target ag go.
        let low = room.low in let high = room.high in let lm = f.piece.temps in let no = h.piece.temps in
        let mine = own_temp (Some to) from m n own l lm low target in
        let ge = mine.0 in let lt = mine.1 in let mn = mine.2 in
        f.runs s ts (λ pl u. value_of ops w call b u (λ v z. store ops w (kind_of k) pl v z (λ i y. next v y)))
        (d (instr.Store at from k q ∷ transfer to from rest)) (record { low = low; high = omega arith }) ag
        (λ pos to2 u us one. h.runs u us (λ v z. store ops w (kind_of k) (At pos to2) v z (λ i y. next v y))
        (instr.Store at from k q ∷ transfer to from rest) (record { low = omega arith; high = high })
        (record { there = lt; free = free_own ops g scene from ge }) one.done.agrees
        (λ v z zs two.
        let agrees = agrees_own ops g scene from z zs ge two.agrees in
        let went = went_then ops g scene (λ i. spares i a) (λ i. spares i b) (λ i. spares i (Assign (kind_of k) a b))
        l.temps n.temps (Some from) s u z ts us zs
        (λ i e. and_left (spares i a) (spares i b) (and_right (not (is_variable i a)) (spares i a && spares i b) e))
        (λ i e. and_right (spares i a) (spares i b)
        (and_right (not (is_variable i a)) (spares i a && spares i b) e)) (omega arith) one.done.went two.went in
        let here = stays ops g scene (Cons b Nil) (λ i. spares i b) l.temps m.temps at (Some from) u z us zs to2 low
        one.stays (λ i e. and_left (spares i b) true e) mine.4 one.done.agrees agrees
        (went_less ops g scene (λ i. spares i b) (λ i. spares i b) m.temps n.temps (Some from) (Some from) u z us zs
        (λ i e. e) mn (λ i e j. j) two.went) one.value in
        stored k at from pos q to2 v z zs (transfer to from rest) (next v) (one.position q position)
        two.typed here two.value
        (λ mem on. let y = record z { mem = mem } in
        go v y (slice_set zs to (Some v)) (record {
          agrees = Rattle.lower_runs.proofs.Agreement.agrees_set ops g scene None (Some to) y zs to (Some v) target.free
              (λ x i e j. (tt, j)) (agrees_memory ops g scene None z zs mem on agrees);
          went = Rattle.lower_runs.proofs.Agreement.went_set ops g scene (λ i. spares i (Assign (kind_of k) a b))
              (λ i. spares i (Assign (kind_of k) a b)) l.temps l.temps (Some from) (Some to) s y ts zs to (Some v)
              (λ i e. e) (omega arith)
              (λ i lt2 j. (own_apart to from m n own l lm i lt2 j, j))
              (went_memory ops g scene (λ i. spares i (Assign (kind_of k) a b)) l.temps
              (Some from) s z ts zs mem on went);
          value = get_set_same zs to (Some v) (let is = agrees.room in let there = target.there in omega arith);
          typed = two.typed;
        }) ∙ sym (transfer_runs ops w t p objects r call g scene to from rest y zs v two.value))));
  }
    where
      own_piece : {to at : ℕ} {m n : Mark} → IsOwn g (Some to) at m n → IsPiece m n (λ rest. rest)
      own_piece {to} {at} {m} {n} own2 = by own2
        where
          by : {o2 : Option ℕ} {at2 : ℕ} {m2 n2 : Mark} → IsOwn g o2 at2 m2 n2 → IsPiece m2 n2 (λ rest. rest)
          by (code.given ge) = nothing_own _
          by (code.fresh {m = m3}) = record { temps = omega arith; labels = omega arith; own = λ i rest j. refl }
