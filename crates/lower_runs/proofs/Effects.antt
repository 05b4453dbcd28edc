-- What expressions do whose value is not asked for.
use Rattle.std.proofs.Common.{◌≡◌, ℕ, ◌+◌, ◌≤◌, Bool, true, false, List, ◌∷◌, Option, Some}
use Rattle.std.proofs.Common.{None, refl, sym, ap, ◌∙◌, arith, if◌then◌else◌}
use Rattle.std.specs.Prelude.{slice_get, ◌&&◌}
use Rattle.ck_base.specs.World.{World}
use Rattle.ck_base.specs.declared.positions.Pos.{Pos}
use Rattle.c_tree.specs.declared.typed.Typed.{Typed}
use Rattle.obj_mem.specs.Values.{Value}
use Rattle.cheri_c_sem.specs.Kinds.{Kind, zero_of, nothing, truth}
use Rattle.cheri_c_sem.specs.Modes.{Store}
use Rattle.cheri_c_sem.specs.Meaning.{Place, At, capability_of, given, value_of, place_of, test}
use Rattle.cheri_c_sem.specs.Operations.{Operations, convert_by}
use Rattle.cheri_c_sem.specs.Steps.{State, Fate, Then, ◌>>=◌, answer, give, choose}
use Rattle.cheri_c_sem.specs.Tree.{Ex, Exs, Number, Null, Load, Aggregate, Convert}
use Rattle.cheri_c_sem.specs.Tree.{Discard, And, Or, Conditional, Comma, Variable, Local, Object, Function}
use Rattle.cheri_c_sem.specs.Tree.{Deref, Member}
use Rattle.tac_ir.specs.Effects.{kind_of}
use Rattle.tac_ir.specs.Meaning.{Running}
use Rattle.tac_ir.specs.Temps.{behind}
use Rattle.tac_ir.specs.declared.code.Tac.{Tac}
use Rattle.tac_ir.specs.declared.code.TacInstr.{TacInstr}
use Rattle.tac_ir.specs.declared.code.TacInstr.TheVariants as instr
use Rattle.tac_ir.specs.declared.code.TacKind.{TacKind}
use Rattle.lower_runs.specs.States.{Scene, IsScene, IsPlaced}
use Rattle.lower_runs.specs.Operating.{Code}
use Rattle.lower_runs.specs.Expressions.{Mark, more, labelled, spares}
use Rattle.lower_runs.specs.Expressions.{is_still, is_still_place, same, choice_code, guarded_code}
use Rattle.lower_runs.specs.Simulation.{IsPiece, HasRoom, Done}
use Rattle.lower_runs.specs.Simulation.{ValueRuns, OperandRuns, EffectRuns}
use Rattle.lower_runs.specs.Simulation.{PlaceEffectRuns, ConditionRuns, PlaceRuns, PointerRuns, goes}
use Rattle.lower_runs.proofs.Agreement.{and_left, and_right, free_own}
use Rattle.lower_runs.proofs.Agreement.{agrees_own, went_less}
use Rattle.lower_runs.proofs.Agreement.{done_start, done_less, done_then, done_labelled}
use Rattle.lower_runs.proofs.Labels.{nothing_own, both_own, choice_own, guarded_own, found_label}
use Rattle.lower_runs.proofs.Steps.{compares, convert_answers}
use Rattle.lower_runs.proofs.Conditions.{chosen}

module _ (ops : Operations Store) (placed : IsPlaced ops) (w : World) (t : Tac) (p : Typed)
    (objects : ℕ → List ℕ) (r : Running) (call : ℕ → List Value → Then Store Value) (g : Scene)
    (scene : IsScene g) where
  abbrev run : List TacInstr → State Store → List (Option Value) → Fate
  run = goes ops w t p objects r call g

  abbrev Value_runs : (k : TacKind) (e : Ex) (to : ℕ) (m n : Mark) (c : Code) → Type 0
  Value_runs = ValueRuns ops w t p objects r call g

  abbrev Operand_runs : (later : Exs) (k : TacKind) (e : Ex) (at : ℕ) (m n : Mark) (c : Code) → Type 0
  Operand_runs = OperandRuns ops w t p objects r call g

  abbrev Effect_runs : (e : Ex) (m n : Mark) (c : Code) → Type 0
  Effect_runs = EffectRuns ops w t p objects r call g

  abbrev Place_effect_runs : (e : Ex) (m n : Mark) (c : Code) → Type 0
  Place_effect_runs = PlaceEffectRuns ops w t p objects r call g

  abbrev Condition_runs : (k : TacKind) (e : Ex) (when : Bool) (label : ℕ) (m n : Mark) (c : Code) → Type 0
  Condition_runs = ConditionRuns ops w t p objects r call g

  abbrev Place_runs : (e : Ex) (to : ℕ) (m n : Mark) (c : Code) → Type 0
  Place_runs = PlaceRuns ops w t p objects r call g

  abbrev Pointer_runs : (later : Exs) (e : Ex) (at : ℕ) (m n : Mark) (c : Code) → Type 0
  Pointer_runs = PointerRuns ops w t p objects r call g

  -- ---- without code

  read_unset : (q : Pos) (k : Kind) (o : Option (Option Value)) (s : State Store) →
      (v : Value) × ((l : Value → State Store → Fate) → given ops w q k o s l ≡ l v s)
  read_unset q k (Some (Some v)) s = (v, λ l. refl)
  read_unset q k (Some None) s = (zero_of k, λ l. ap (λ z. answer q z s l) (placed.unset k))
  read_unset q k None s = (zero_of k, λ l. ap (λ z. answer q z s l) (placed.unset k))

  still_value : (e : Ex) → is_still e ≡ true → (s : State Store) →
      (v : Value) × ((l : Value → State Store → Fate) → value_of ops w call e s l ≡ l v s)
  still_value (Number n) h s = (_, λ l. refl)
  still_value (Null n) h s = (_, λ l. refl)
  still_value (Load k (Variable q x)) h s = read_unset q k (slice_get s.vars x) s
  still_value (Variable q x) h s = (_, λ l. refl)
  still_value (Local q n) h s = (_, λ l. refl)
  still_value (Object q n permissions) h s = (_, λ l. refl)
  still_value (Function q f) h s = (_, λ l. refl)
  still_value e h s = absurd cc

  still_place : (e : Ex) → is_still_place e ≡ true → (s : State Store) →
      (v : Place) × ((l : Place → State Store → Fate) → place_of ops w call e s l ≡ l v s)
  still_place (Variable q x) h s = (_, λ l. refl)
  still_place (Local q n) h s = (_, λ l. refl)
  still_place (Object q n permissions) h s = (_, λ l. refl)
  still_place (Function q f) h s = (_, λ l. refl)
  still_place e h s = absurd cc

  pub still_effect : (e : Ex) (m : Mark) → is_still e ≡ true → Effect_runs e m m (λ rest. rest)
  still_effect e m h = record {
    piece = nothing_own m;
    runs = λ s ts l rest room ag go. let i = still_value e h s in
        i.1 l ∙ go i.0 s ts (done_start ops g scene (λ i. spares i e) m s ts ag);
  }

  pub still_place_effect : (e : Ex) (m : Mark) → is_still_place e ≡ true → Place_effect_runs e m m (λ rest. rest)
  still_place_effect e m h = record {
    piece = nothing_own m;
    runs = λ s ts l rest room ag go. let i = still_place e h s in
        i.1 l ∙ go i.0 s ts (done_start ops g scene (λ i. spares i e) m s ts ag);
  }

  -- ---- of one operand

  done_as : (f k : ℕ → Bool) (m : Mark) (s u : State Store) (ts us : List (Option Value)) →
      ((x : ℕ) → k x ≡ true → f x ≡ true) → Done ops g f m s ts u us → Done ops g k m s ts u us
  done_as f k m s u ts us h d = done_less ops g scene f k m m s u ts us h (omega arith) d

  pub convert_effect : (e : Ex) (q : Pos) (j k : Kind) (plain : Bool) (m n : Mark) (c : Code) → Effect_runs e m n c →
      Effect_runs (Convert q j k plain e) m n c
  convert_effect e q j k plain m n c h = record {
    piece = h.piece;
    runs = λ s ts l rest room ag go. h.runs s ts (λ v u. answer q (convert_by ops u.mem j k v) u l) rest room ag
        (λ v u us d. let o = convert_answers ops placed u.mem j k v in ap (λ z. answer q z u l) o.1 ∙ go o.0 u us d);
  }

  pub discard_effect : (e : Ex) (m n : Mark) (c : Code) → Effect_runs e m n c → Effect_runs (Discard e) m n c
  discard_effect e m n c h =
      record {
        piece = h.piece;
        runs = λ s ts l rest room ag go. h.runs s ts (λ v u. l nothing u) rest room ag (λ v u us d. go nothing u us d);
      }

  pub deref_effect : (e : Ex) (q : Pos) (m n : Mark) (c : Code) → Effect_runs e m n c → Effect_runs (Deref q e) m n c
  deref_effect e q m n c h =
      record {
        piece = h.piece;
        runs = λ s ts l rest room ag go. h.runs s ts (λ v u. l nothing u) rest room ag (λ v u us d. go nothing u us d);
      }

  pub member_effect : (e : Ex) (q : Pos) (offset : ℕ) (m n : Mark) (c : Code) → Place_effect_runs e m n c →
      Effect_runs (Member q offset e) m n c
  member_effect e q offset m n c h =
      record {
        piece = h.piece;
        runs = λ s ts l rest room ag go. h.runs s ts (λ v u. l nothing u) rest room ag (λ v u us d. go nothing u us d);
      }

  pub aggregate_effect : (e : Ex) (m n : Mark) (c : Code) → Place_effect_runs e m n c → Effect_runs (Aggregate e) m n c
  aggregate_effect e m n c h =
      record {
        piece = h.piece;
        runs = λ s ts l rest room ag go. h.runs s ts (λ v u. l nothing u) rest room ag (λ v u us d. go nothing u us d);
      }

  pub deref_place_effect : (e : Ex) (q : Pos) (m n : Mark) (c : Code) → Effect_runs e m n c →
      Place_effect_runs (Deref q e) m n c
  deref_place_effect e q m n c h =
      record {
        piece = h.piece;
        runs = λ s ts l rest room ag go. h.runs s ts (λ v u. l (At q v) u) rest room ag
            (λ v u us d. go (At q v) u us d);
      }

  pub member_place_effect : (e : Ex) (q : Pos) (offset : ℕ) (m n : Mark) (c : Code) → Place_effect_runs e m n c →
      Place_effect_runs (Member q offset e) m n c
  member_place_effect e q offset m n c h = record {
    piece = h.piece;
    runs = λ s ts l rest room ag go. h.runs s ts
        (λ v u. answer q (ops.offset u.mem (capability_of v) offset) u (λ z. l (At q z))) rest room ag
        (λ v u us d. let o = placed.offset u.mem (capability_of v) offset in
        ap (λ z. answer q z u (λ i. l (At q i))) o.1 ∙ go (At q o.0) u us d);
  }

  pub aggregate_place_effect : (e : Ex) (m n : Mark) (c : Code) → Place_effect_runs e m n c →
      Place_effect_runs (Aggregate e) m n c
  aggregate_place_effect e m n c h =
      record { piece = h.piece; runs = λ s ts l rest room ag go. h.runs s ts l rest room ag (λ v u us d. go v u us d) }

  -- a value that is computed and dropped
  pub value_effect : (k : TacKind) (e : Ex) (m n : Mark) (c : Code) → Value_runs k e m.temps (more 1 m) n c →
      Effect_runs e m n c
  value_effect k e m n c h = record {
    piece = record { temps = let le = h.piece.temps in omega arith; labels = h.piece.labels; own = h.piece.own };
    runs = λ s ts l rest room ag go.
        let low = room.low in
        h.runs s ts l rest (record { low = omega arith; high = room.high })
        (record { there = omega arith; free = free_own ops g scene m.temps low }) ag
        (λ v u us a. go v u us (record {
          agrees = agrees_own ops g scene m.temps u us low a.agrees;
          went = went_less ops g scene (λ x. spares x e) (λ x. spares x e) m.temps (m.temps + 1)
              (Some m.temps) None s u ts us (λ x q. q) (omega arith) (λ i lt z q. absurd (omega arith)) a.went;
        }));
  }

  -- ---- one behind the other

  pub comma_effect : (a b : Ex) (l m n : Mark) (c d : Code) → Effect_runs a l m c → Effect_runs b m n d →
      Effect_runs (Comma a b) l n (λ rest. c (d rest))
  comma_effect a b l m n c d f h = record {
    piece = both_own l m n c d f.piece h.piece;
    runs = λ s ts next rest room ag go.
        let low = room.low in let high = room.high in let lm = f.piece.temps in let mn = h.piece.temps in
        f.runs s ts (λ v u. value_of ops w call b u next) (d rest) (record { low = low; high = omega arith }) ag
        (λ v u us one. h.runs u us next rest (record { low = omega arith; high = high }) one.agrees
        (λ y z zs two. go y z zs (done_then ops g scene (λ i. spares i a) (λ i. spares i b)
        (λ i. spares i a && spares i b) l m s u z ts us zs
        (λ i e. and_left (spares i a) (spares i b) e) (λ i e. and_right (spares i a) (spares i b) e) lm one two)));
  }

  pub comma_place_effect : (a b : Ex) (l m n : Mark) (c d : Code) → Effect_runs a l m c → Place_effect_runs b m n d →
      Place_effect_runs (Comma a b) l n (λ rest. c (d rest))
  comma_place_effect a b l m n c d f h = record {
    piece = both_own l m n c d f.piece h.piece;
    runs = λ s ts next rest room ag go.
        let low = room.low in let high = room.high in let lm = f.piece.temps in let mn = h.piece.temps in
        f.runs s ts (λ v u. place_of ops w call b u next) (d rest) (record { low = low; high = omega arith }) ag
        (λ v u us one. h.runs u us next rest (record { low = omega arith; high = high }) one.agrees
        (λ y z zs two. go y z zs (done_then ops g scene (λ i. spares i a) (λ i. spares i b)
        (λ i. spares i a && spares i b) l m s u z ts us zs
        (λ i e. and_left (spares i a) (spares i b) e) (λ i e. and_right (spares i a) (spares i b) e) lm one two)));
  }

  -- ---- choices

  first_way : (e a b : Ex) (i : ℕ) → (spares i e && (spares i a && spares i b)) ≡ true → spares i a ≡ true
  first_way e a b i h = and_left (spares i a) (spares i b) (and_right (spares i e) (spares i a && spares i b) h)

  second_way : (e a b : Ex) (i : ℕ) → (spares i e && (spares i a && spares i b)) ≡ true → spares i b ≡ true
  second_way e a b i h = and_right (spares i a) (spares i b) (and_right (spares i e) (spares i a && spares i b) h)

  pub choice_effect : (q : Pos) (j : TacKind) (e a b : Ex) (l m n o : Mark) (c d f : Code) →
      Condition_runs j e false l.labels (labelled 2 l) m c → Effect_runs a m n d → Effect_runs b n o f →
      Effect_runs (Conditional q (kind_of j) e a b) l o (choice_code l.labels c d f)
  choice_effect q j e a b l m n o c d f h x y = record {
    piece = choice_own l m n o c d f h.piece x.piece y.piece;
    runs = λ s ts next rest room ag go.
        let low = room.low in let high = room.high in let lm = h.piece.temps in let mn = x.piece.temps in
        let no = y.piece.temps in
        chosen ops placed w t p objects r call g scene j q e (value_of ops w call a)
        (value_of ops w call b) l m n o c d f h x.piece y.piece s ts next rest room ag
        (λ u us after one alike. x.runs u us next after (record { low = omega arith; high = omega arith }) one.agrees
        (λ v z zs two. go v z zs (done_then ops g scene (λ i. spares i e) (λ i. spares i a)
        (λ i. spares i e && (spares i a && spares i b)) l m s u z ts us zs
        (λ i k. and_left (spares i e) (spares i a && spares i b) k) (first_way e a b) lm one two) ∙ sym (alike z zs)))
        (λ u us after one alike. y.runs u us next after (record { low = omega arith; high = omega arith }) one.agrees
        (λ v z zs two. go v z zs (done_then ops g scene (λ i. spares i e) (λ i. spares i b)
        (λ i. spares i e && (spares i a && spares i b)) l n s u z ts us zs
        (λ i k. and_left (spares i e) (spares i a && spares i b) k) (second_way e a b) (omega arith) one two)
        ∙ sym (alike z zs)));
  }

  pub choice_place_effect : (q : Pos) (j : TacKind) (e a b : Ex) (l m n o : Mark) (c d f : Code) →
      Condition_runs j e false l.labels (labelled 2 l) m c → Place_effect_runs a m n d → Place_effect_runs b n o f
      → Place_effect_runs (Conditional q (kind_of j) e a b) l o (choice_code l.labels c d f)
  choice_place_effect q j e a b l m n o c d f h x y = record {
    piece = choice_own l m n o c d f h.piece x.piece y.piece;
    runs = λ s ts next rest room ag go.
        let low = room.low in let high = room.high in let lm = h.piece.temps in let mn = x.piece.temps in
        let no = y.piece.temps in
        chosen ops placed w t p objects r call g scene j q e (place_of ops w call a)
        (place_of ops w call b) l m n o c d f h x.piece y.piece s ts next rest room ag
        (λ u us after one alike. x.runs u us next after (record { low = omega arith; high = omega arith }) one.agrees
        (λ v z zs two. go v z zs (done_then ops g scene (λ i. spares i e) (λ i. spares i a)
        (λ i. spares i e && (spares i a && spares i b)) l m s u z ts us zs
        (λ i k. and_left (spares i e) (spares i a && spares i b) k) (first_way e a b) lm one two) ∙ sym (alike z zs)))
        (λ u us after one alike. y.runs u us next after (record { low = omega arith; high = omega arith }) one.agrees
        (λ v z zs two. go v z zs (done_then ops g scene (λ i. spares i e) (λ i. spares i b)
        (λ i. spares i e && (spares i a && spares i b)) l n s u z ts us zs
        (λ i k. and_left (spares i e) (spares i a && spares i b) k) (second_way e a b) (omega arith) one two)
        ∙ sym (alike z zs)));
  }

  -- ---- `&&` and `||`

  module _ (q : Pos) (j : TacKind) (k : Kind) (a b : Ex) (l m n : Mark) (c d : Code) where
    -- the second operand and its truth, which is dropped
    abbrev second : Then Store Value
    second = value_of ops w call b >>= λ y. test ops w q k y >>= λ z. give (truth z)

    over : IsPiece m n d → l.labels + 1 ≤ m.labels → (rest : List TacInstr) →
        behind l.labels (d (instr.Label l.labels ∷ rest)) ≡ rest
    over h le rest = h.own l.labels (instr.Label l.labels ∷ rest) (λ z. absurd (omega arith))
        ∙ found_label l.labels rest

    -- it is evaluated, where the first one leads to it
    evaluated : Effect_runs b m n d →
        (s u : State Store) (ts us : List (Option Value)) (next : Value → State Store → Fate) (rest : List TacInstr) →
        HasRoom g l n → l.temps ≤ m.temps → Done ops g (λ i. spares i a) l s ts u us
        → ((v : Value) (z : State Store) (zs : List (Option Value)) →
        Done ops g (λ i. spares i a && spares i b) l s ts z zs → next v z ≡ run rest z zs) →
        second u next ≡ run (d (instr.Label l.labels ∷ rest)) u us
    evaluated h s u ts us next rest room lm one go =
        let low = room.low in let high = room.high in let mn = h.piece.temps in
        h.runs u us (λ y z. test ops w q k y z (λ i. next (truth i))) (instr.Label l.labels ∷ rest)
        (record { low = omega arith; high = high }) one.agrees
        (λ y z zs two.
        let o = compares ops placed z.mem Rattle.ck_int.specs.declared.kinds.CmpOp.TheVariants.Ne k y (zero_of k)
        in
        ap (λ i. answer q i z (λ v. next (truth v))) o.1
        ∙ go (truth o.0) z zs (done_then ops g scene (λ i. spares i a) (λ i. spares i b)
        (λ i. spares i a && spares i b) l m s u z ts us zs
        (λ i e. and_left (spares i a) (spares i b) e) (λ i e. and_right (spares i a) (spares i b) e) lm one two))

    passed : (s u : State Store) (ts us : List (Option Value)) → Done ops g (λ i. spares i a) l s ts u us →
        Done ops g (λ i. spares i a && spares i b) l s ts u us
    passed s u ts us h = done_as (λ i. spares i a) (λ i. spares i a && spares i b) l s u ts us
        (λ i e. and_left (spares i a) (spares i b) e) h

    pub both_effect : Condition_runs j a false l.labels (labelled 1 l) m c → Effect_runs b m n d →
        Effect_runs (And q (kind_of j) k a b) l n (guarded_code l.labels c d)
    both_effect f h = record {
      piece = guarded_own l m n c d f.piece h.piece;
      runs = λ s ts next rest room ag go.
          let low = room.low in let high = room.high in let lm = f.piece.temps in let mn = h.piece.temps in
          let lbl = f.piece.labels in
          f.runs q s ts (λ x z. choose x second (give (truth false)) z next) (d (instr.Label l.labels ∷ rest))
          (record { low = low; high = omega arith }) (omega arith) ag (λ x u us one.
          let done = done_labelled ops g scene (λ i. spares i a) 1 l s u ts us one in
          let by : (x : Bool) → choose x second (give (truth false)) u next
          ≡ run (if same false x then behind l.labels (d (instr.Label l.labels ∷ rest))
          else d (instr.Label l.labels ∷ rest)) u us = elim [
            | true ↦ evaluated h s u ts us next rest room lm done go
            | false ↦ go (truth false) u us (passed s u ts us done)
                ∙ ap (λ z. run z u us) (sym (over h.piece (omega arith) rest))
          ] in by x);
    }

    pub either_effect : Condition_runs j a true l.labels (labelled 1 l) m c → Effect_runs b m n d →
        Effect_runs (Or q (kind_of j) k a b) l n (guarded_code l.labels c d)
    either_effect f h = record {
      piece = guarded_own l m n c d f.piece h.piece;
      runs = λ s ts next rest room ag go.
          let low = room.low in let high = room.high in let lm = f.piece.temps in let mn = h.piece.temps in
          let lbl = f.piece.labels in
          f.runs q s ts (λ x z. choose x (give (truth true)) second z next) (d (instr.Label l.labels ∷ rest))
          (record { low = low; high = omega arith }) (omega arith) ag (λ x u us one.
          let done = done_labelled ops g scene (λ i. spares i a) 1 l s u ts us one in
          let by : (x : Bool) → choose x (give (truth true)) second u next
          ≡ run (if same true x then behind l.labels (d (instr.Label l.labels ∷ rest))
          else d (instr.Label l.labels ∷ rest)) u us = elim [
            | true ↦ go (truth true) u us (passed s u ts us done)
                ∙ ap (λ z. run z u us) (sym (over h.piece (omega arith) rest))
            | false ↦ evaluated h s u ts us next rest room lm done go
          ] in by x);
    }
