-- Values that come into a temp.
use Rattle.std.proofs.Common.{◌≡◌, ℕ, ◌+◌, ◌<◌, Bool, true, false, not, List, [], ◌∷◌, Option, Some, None}
use Rattle.std.proofs.Common.{refl, sym, ap, subst, ◌∙◌, arith, if◌then◌else◌}
use Rattle.std.specs.Prelude.{slice_set, ◌&&◌, ◌^◌}
use Rattle.ck_base.specs.World.{World}
use Rattle.ck_base.specs.declared.positions.Pos.{Pos}
use Rattle.ck_int.specs.Kinds.{IsKept}
use Rattle.ck_int.specs.declared.kinds.CmpOp.{CmpOp}
use Rattle.ck_int.specs.declared.kinds.IntKind.{IntKind}
use Rattle.ck_int.specs.declared.kinds.IntOp.{IntOp}
use Rattle.c_tree.specs.declared.typed.Typed.{Typed}
use Rattle.obj_mem.specs.Values.{Value}
use Rattle.obj_mem.specs.Values as value
use Rattle.cheri_c_sem.specs.Kinds.{Plain, nothing, truth, null_at}
use Rattle.cheri_c_sem.specs.Modes.{Store}
use Rattle.cheri_c_sem.specs.Meaning.{value_of, test, operate_by, sign_by}
use Rattle.cheri_c_sem.specs.Operations.{Operations, convert_by, compare_by}
use Rattle.cheri_c_sem.specs.Steps.{State, Fate, Then, ◌>>=◌, answer, ask, give}
use Rattle.cheri_c_sem.specs.Tree.{Ex, Exs, Nil, Number, Null, Load, Convert, Discard, Unary, Not, Binary, Whole, Sign}
use Rattle.cheri_c_sem.specs.Tree.{Compare, Comma, Pointer_to, Variable}
use Rattle.cheri_c_sem.specs.Types.{is_shift}
use Rattle.tac_ir.specs.Effects.{kind_of}
use Rattle.tac_ir.specs.Meaning.{Running}
use Rattle.tac_ir.specs.declared.code.Tac.{Tac}
use Rattle.tac_ir.specs.declared.code.TacInstr.{TacInstr}
use Rattle.tac_ir.specs.declared.code.TacInstr.TheVariants as instr
use Rattle.tac_ir.specs.declared.code.TacKind.{TacKind}
use Rattle.tac_ir.specs.declared.code.TacKind.TheVariants as kind
use Rattle.lower_runs.specs.States.{Scene, IsScene, IsPlaced}
use Rattle.lower_runs.specs.Operating.{Code, AreInts, transfer, negated, signed_integer, sign_temps, whole, right_temps}
use Rattle.lower_runs.specs.Expressions as code
use Rattle.lower_runs.specs.Expressions.{pointer_kind, Mark, more, labelled, spares, int_kind, IsRight, is_junction}
use Rattle.lower_runs.specs.Simulation.{IsPiece, ValueRuns, OperandRuns, OperandInRuns}
use Rattle.lower_runs.specs.Simulation.{PairRuns, EffectRuns, ConditionRuns, goes, kinds}
use Rattle.lower_runs.proofs.Agreement.{and_left, and_right, done_start, done_valued, done_labelled}
use Rattle.lower_runs.proofs.Labels.{nothing_own, both_own, then_own, choice_own, to_other, to_end, jumps}
use Rattle.lower_runs.proofs.Steps.{truth_is_of, kept_zero, converts_same, transfer_runs}
use Rattle.lower_runs.proofs.Steps.{lands}
use Rattle.lower_runs.proofs.Operations.{transfer_plain, conversion_runs, comparison_runs, negated_runs, whole_runs}
use Rattle.lower_runs.proofs.Operations.{sign_runs}
use Rattle.lower_runs.proofs.Operands.{in_place, unary_value, unary_in_value, binary_value}
use Rattle.lower_runs.proofs.Conditions.{junction_truth}

-- no temp more
pub more_none : (m : Mark) → more 0 m ≡ m
more_none m = let e : m.temps + 0 ≡ m.temps = omega arith in ap (λ n. record m { temps = n }) e

module _ (ops : Operations Store) (placed : IsPlaced ops) (w : World) (t : Tac) (p : Typed)
    (objects : ℕ → List ℕ) (r : Running) (call : ℕ → List Value → Then Store Value) (g : Scene)
    (scene : IsScene g) where
  abbrev run : List TacInstr → State Store → List (Option Value) → Fate
  run = goes ops w t p objects r call g

  abbrev Value_runs : (k : TacKind) (e : Ex) (to : ℕ) (m n : Mark) (c : Code) → Type 0
  Value_runs = ValueRuns ops w t p objects r call g

  abbrev Operand_runs : (later : Exs) (k : TacKind) (e : Ex) (at : ℕ) (m n : Mark) (c : Code) → Type 0
  Operand_runs = OperandRuns ops w t p objects r call g

  abbrev Pair_runs : (j : TacKind) (a : Ex) (x : ℕ) (k : TacKind) (b : Ex) (y : ℕ) (m n : Mark) (c : Code) → Type 0
  Pair_runs = PairRuns ops w t p objects r call g

  -- ---- values that are there

  pub number_value : (k : IntKind) (v to : ℕ) (m : Mark) → IsKept k v →
      Value_runs (kind.Int k) (Number v) to m m (λ rest. instr.Const to (kind.Int k) v ∷ rest)
  number_value k v to m h = record {
    piece = then_own m m m (λ rest. rest) (λ rest. instr.Const to (kind.Int k) v ∷ rest) (omega arith) refl
        (λ o rest. refl) (nothing_own m);
    runs = λ s ts l rest room target ag go.
        go (value.Int v) s (slice_set ts to (Some (value.Int v)))
        (lands ops w t p objects r call g scene (kind.Int k) (λ i. true) (λ i. true) to m m s s ts ts (value.Int v)
        (λ i e. refl) target room (omega arith) (v, refl, h) (done_start ops g scene (λ i. true) m s ts ag));
  }

  pub null_value : (z : Bool) (v to : ℕ) (m : Mark) → v < 2 ^ 64 →
      Value_runs (kind.Cap z) (Null v) to m m (λ rest. instr.Const to (kind.Cap z) v ∷ rest)
  null_value z v to m lt = record {
    piece = then_own m m m (λ rest. rest) (λ rest. instr.Const to (kind.Cap z) v ∷ rest) (omega arith) refl
        (λ o rest. refl) (nothing_own m);
    runs = λ s ts l rest room target ag go.
        go (null_at v) s (slice_set ts to (Some (null_at v)))
        (lands ops w t p objects r call g scene (kind.Cap z) (λ i. true) (λ i. true) to m m s s ts ts (null_at v)
        (λ i e. refl) target room (omega arith) lt (done_start ops g scene (λ i. true) m s ts ag));
  }

  pub unplaced_value : (x to : ℕ) (q s : Pos) (m : Mark) →
      Value_runs pointer_kind (Pointer_to q None (Variable s x)) to m m (λ rest. instr.Const to pointer_kind 0 ∷ rest)
  unplaced_value x to q s m = let null = null_value false 0 to m (omega arith) in
      record { piece = null.piece; runs = null.runs }

  pub variable_value : (x at to : ℕ) (k : TacKind) (q : Pos) (m : Mark) →
      g.home x ≡ Some (record { temp = at; kind = k }) →
      Value_runs k (Load (kind_of k) (Variable q x)) to m m (transfer to at)
  variable_value x at to k q m home = record {
    piece = then_own m m m (λ rest. rest) (transfer to at) (omega arith) refl (λ o rest. transfer_plain to at o rest)
        (nothing_own m);
    runs = λ s ts l rest room target ag go.
        let i = in_place ops placed w t p objects r call g scene Nil k (Load (kind_of k) (Variable q x)) at
        (code.variable home refl) s ts ag in
        i.3 l ∙ go i.0 s (slice_set ts to (Some i.0))
        (lands ops w t p objects r call g scene k (λ i. true) (λ i. true) to m m s s ts ts i.0 (λ i e. refl) target room
        (omega arith) i.2 (done_start ops g scene (λ i. true) m s ts ag))
        ∙ sym (transfer_runs ops w t p objects r call g scene to at rest s ts i.0 i.1);
  }

  -- ---- conversions

  -- one that leaves the value as it is
  pub kept_value : (k : TacKind) (e : Ex) (q : Pos) (plain : Bool) (to : ℕ) (m n : Mark) (c : Code) →
      Value_runs k e to m n c → Value_runs k (Convert q (kind_of k) (kind_of k) plain e) to m n c
  kept_value k e q plain to m n c h = record {
    piece = h.piece;
    runs = λ s ts l rest room target ag go.
        h.runs s ts (λ v u. answer q (convert_by ops u.mem (kind_of k) (kind_of k) v) u l) rest room target ag
        (λ v u us a. ap (λ z. answer q z u l) (converts_same ops placed u.mem (kind_of k) v a.typed)
        ∙ go v u us (record { agrees = a.agrees; went = a.went; value = a.value; typed = a.typed }));
  }

  pub converted_value : (j k : TacKind) (e : Ex) (q : Pos) (plain : Bool) (x to : ℕ) (m n : Mark) (c : Code) →
      Operand_runs Nil j e x m n c →
      Value_runs k (Convert q (kind_of j) (kind_of k) plain e) to m n (λ rest. c (instr.Convert to x j k ∷ rest))
  converted_value j k e q plain x to m n c h =
      subst (λ z. Value_runs k (Convert q (kind_of j) (kind_of k) plain e) to m z
      (λ rest. c (instr.Convert to x j k ∷ rest))) (more_none n)
      (unary_value ops placed w t p objects r call g scene j k e (Convert q (kind_of j) (kind_of k) plain e) x to 0 m n
      (λ v. ask q (λ z. convert_by ops z (kind_of j) (kind_of k) v)) c (λ rest. instr.Convert to x j k ∷ rest) h
      (conversion_runs ops placed w t p objects r call g scene q j k to x n.temps) (λ s l. refl) (λ i z. z))

  pub discarded_value : (e : Ex) (to : ℕ) (m n : Mark) (c : Code) → EffectRuns ops w t p objects r call g e m n c →
      Value_runs int_kind (Discard e) to m n (λ rest. c (instr.Const to int_kind 0 ∷ rest))
  discarded_value e to m n c h = record {
    piece = then_own m n n c (λ rest. instr.Const to int_kind 0 ∷ rest) (omega arith) refl (λ o rest. refl) h.piece;
    runs = λ s ts l rest room target ag go.
        let le = h.piece.temps in
        h.runs s ts (λ v u. l nothing u) (instr.Const to int_kind 0 ∷ rest) room ag
        (λ v u us a. go nothing u (slice_set us to (Some nothing))
        (lands ops w t p objects r call g scene int_kind (λ i. spares i e) (λ i. spares i e) to m n s u ts us nothing
        (λ i z. z) target room le (0, refl, kept_zero _) a));
  }

  -- ---- operations

  pub opposite_value : (k : TacKind) (e : Ex) (q : Pos) (x to : ℕ) (m n : Mark) (c : Code) →
      Operand_runs Nil k e x m n c →
      Value_runs int_kind (Not q (kind_of k) e) to m (more 1 n) (λ rest. c (negated k to x n.temps rest))
  opposite_value k e q x to m n c h =
      unary_value ops placed w t p objects r call g scene k int_kind e (Not q (kind_of k) e) x to 1 m n
      (λ v. test ops w q (kind_of k) v >>= (λ b. give (truth (not b)))) c (negated k to x n.temps) h
      (negated_runs ops placed w t p objects r call g scene q k to x n.temps) (λ s l. refl) (λ i z. z)

  pub compare_value : (op : CmpOp) (k : TacKind) (a b : Ex) (q : Pos) (x y to : ℕ) (m n : Mark) (c : Code) →
      Pair_runs k a x k b y m n c →
      Value_runs int_kind (Compare q op (kind_of k) a b) to m n (λ rest. c (instr.Cmp op k to x y ∷ rest))
  compare_value op k a b q x y to m n c h =
      subst (λ z. Value_runs int_kind (Compare q op (kind_of k) a b) to m z (λ rest. c (instr.Cmp op k to x y ∷ rest)))
      (more_none n)
      (binary_value ops placed w t p objects r call g scene k k int_kind a b (Compare q op (kind_of k) a b) x y to 0 m n
      (λ v z. ask q (λ i. compare_by ops i op (kind_of k) v z) >>= (λ d. give (truth d))) c
      (λ rest. instr.Cmp op k to x y ∷ rest) h
      (comparison_runs ops placed w t p objects r call g scene q op k to x y n.temps) (λ s l. refl) (λ i z. z))

  pub whole_value : (op : IntOp) (i : IntKind) (k : TacKind) (a b : Ex) (q : Pos) (x y to : ℕ) (m n : Mark) (c : Code) →
      Pair_runs (kind.Int i) a x k b y m n c → IsRight (is_shift op) (kind.Int i) k
      → AreInts (kinds ops w t p objects r call g) (whole op i k to x y n.temps []) →
      Value_runs (kind.Int i) (Binary q (Whole op i (kind_of k)) a b) to m (more (right_temps op k) n)
      (λ rest. c (whole op i k to x y n.temps rest))
  whole_value op i k a b q x y to m n c h right ints =
      binary_value ops placed w t p objects r call g scene (kind.Int i) k (kind.Int i) a b
      (Binary q (Whole op i (kind_of k)) a b) x y to (right_temps op k) m n
      (λ v z. ask q (λ o. operate_by ops w (Whole op i (kind_of k)) o v z)) c
      (whole op i k to x y n.temps) h (whole_runs ops placed w t p objects r call g scene q op i k to x y n.temps right
      ints) (λ s l. refl) (λ o z. z)

  pub sign_value : (sign : Sign) (i : IntKind) (e : Ex) (q : Pos) (x to : ℕ) (m n : Mark) (c : Code) →
      OperandInRuns ops w t p objects r call g (kind.Int i) e to x m n c →
      AreInts (kinds ops w t p objects r call g) (signed_integer sign i to x n.temps [])
      → Value_runs (kind.Int i) (Unary q sign (Plain i) e) to m (more (sign_temps sign) n)
      (λ rest. c (signed_integer sign i to x n.temps rest))
  sign_value sign i e q x to m n c h ints =
      unary_in_value ops placed w t p objects r call g scene (kind.Int i) (kind.Int i) e (Unary q sign (Plain i) e) x to
      (sign_temps sign) m n (λ v. ask q (λ o. sign_by ops w sign (Plain i) o v)) c
      (signed_integer sign i to x n.temps) h
      (sign_runs ops placed w t p objects r call g scene q sign i to x n.temps ints) (λ s l. refl) (λ o z. z)

  -- ---- values behind effects, and truth

  pub comma_value : (k : TacKind) (a b : Ex) (to : ℕ) (l m n : Mark) (c d : Code) →
      EffectRuns ops w t p objects r call g a l m c → Value_runs k b to m n d →
      Value_runs k (Comma a b) to l n (λ rest. c (d rest))
  comma_value k a b to l m n c d f h = record {
    piece = both_own l m n c d f.piece h.piece;
    runs = λ s ts next rest room target ag go.
        let low = room.low in let high = room.high in let lm = f.piece.temps in let mn = h.piece.temps in
        let lt = target.there in
        f.runs s ts (λ v u. value_of ops w call b u next) (d rest) (record { low = low; high = omega arith }) ag
        (λ v u us one. h.runs u us next rest (record { low = omega arith; high = high })
        (record { there = omega arith; free = target.free }) one.agrees
        (λ y z zs two. go y z zs (done_valued ops g scene k (λ i. spares i a) (λ i. spares i b)
        (λ i. spares i a && spares i b) to l m s u z ts us zs y
        (λ i e. and_left (spares i a) (spares i b) e) (λ i e. and_right (spares i a) (spares i b) e) lm one two)));
  }

  -- `&&` and `||`
  pub truth_value : (q : Pos) (e : Ex) (to : ℕ) (m n : Mark) (c : Code) → is_junction e ≡ true →
      ConditionRuns ops w t p objects r call g int_kind e false m.labels (labelled 2 m) n c
      → Value_runs int_kind e to m n (λ rest. c
      (instr.Const to int_kind 1 ∷ instr.Jump (m.labels + 1) ∷ instr.Label m.labels ∷ instr.Const to int_kind 0
      ∷ instr.Label (m.labels + 1) ∷ rest))
  truth_value q e to m n c junction h = record {
    piece = choice_own m n n n c one two h.piece (plain_own n one (λ o rest. refl)) (plain_own n two (λ o rest. refl));
    runs = λ s ts l rest room target ag go.
        let low = room.low in let high = room.high in let le = h.piece.temps in let lbl = h.piece.labels in
        let last = instr.Label (m.labels + 1) ∷ rest in
        let way_one = instr.Const to int_kind 1 ∷ instr.Jump (m.labels + 1) ∷ instr.Label m.labels
        ∷ instr.Const to int_kind 0 ∷ last in
        junction_truth ops placed w t p objects r call g scene q e junction s l
        ∙ h.runs q s ts (λ b. l (truth b)) way_one (record { low = low; high = high }) (omega arith) ag (λ b u us d.
        let done = done_labelled ops g scene (λ i. spares i e) 2 m s u ts us d in
        let by : (b : Bool) → l (truth b) u
        ≡ run (if code.same false b then Rattle.tac_ir.specs.Temps.behind m.labels way_one
        else way_one) u us = elim [
          | true ↦ go (truth true) u (slice_set us to (Some (truth true)))
              (lands ops w t p objects r call g scene int_kind (λ i. spares i e) (λ i. spares i e) to m n s u ts us
              (truth true) (λ i z. z) target room le (truth_is_of true) done)
              ∙ sym (jumps ops w t p objects r call g (m.labels + 1)
              (instr.Label m.labels ∷ instr.Const to int_kind 0 ∷ last) u (slice_set us to (Some (truth true)))
              ∙ ap (λ z. run z u (slice_set us to (Some (truth true))))
              (to_end m n n two rest (omega arith) (plain_own n two (λ o rest. refl))))
          | false ↦ go (truth false) u (slice_set us to (Some (truth false)))
              (lands ops w t p objects r call g scene int_kind (λ i. spares i e) (λ i. spares i e) to m n s u ts us
              (truth false) (λ i z. z) target room le (truth_is_of false) done)
              ∙ ap (λ z. run z u us) (sym (to_other m n n n one two rest (omega arith)
              (plain_own n one (λ o rest. refl))))
        ] in by b);
  }
    where
      one : Code
      one rest = instr.Const to int_kind 1 ∷ rest

      two : Code
      two rest = instr.Const to int_kind 0 ∷ rest

      plain_own : (m : Mark) (d : Code) →
          ((o : ℕ) (rest : List TacInstr) →
          Rattle.tac_ir.specs.Temps.behind o (d rest) ≡ Rattle.tac_ir.specs.Temps.behind o rest) → IsPiece m m d
      plain_own m d plain = then_own m m m (λ rest. rest) d (omega arith) refl plain (nothing_own m)
