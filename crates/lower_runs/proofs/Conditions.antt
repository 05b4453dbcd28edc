-- Conditions, and choices by them.
use Rattle.std.proofs.Common.{◌≡◌, ℕ, ◌+◌, ◌≤◌, ◌<◌, Bool, true, false, not, List, ◌∷◌, Option}
use Rattle.std.proofs.Common.{None, Result, Ok, refl, sym, ap, ◌∙◌, arith, if◌then◌else◌}
use Rattle.std.specs.Prelude.{slice_get, ◌&&◌, ◌==◌}
use Rattle.std.proofs.Math.Path.{fun_ext}
use Rattle.ck_base.specs.World.{World}
use Rattle.ck_base.specs.declared.positions.Pos.{Pos}
use Rattle.ck_int.specs.Kinds.{IsKept, value_of as value_of_kind}
use Rattle.ck_int.specs.declared.kinds.IntKind.{IntKind}
use Rattle.ck_int.proofs.OperationLaws.{compare_of-Ne, compare_of-Eq_kept}
use Rattle.ck_int.specs.Arithmetic.{compare_of}
use Rattle.ck_int.specs.declared.kinds.CmpOp.TheVariants.{Ne}
use Rattle.c_tree.specs.declared.typed.Typed.{Typed}
use Rattle.obj_mem.specs.Values.{Value}
use Rattle.obj_mem.specs.Values as value
use Rattle.obj_mem.specs.declared.ending.Fault.{Fault}
use Rattle.cheri_c_sem.specs.Kinds.{Kind, Plain, null_at, number_of, truth}
use Rattle.cheri_c_sem.specs.Modes.{Store}
use Rattle.cheri_c_sem.specs.Meaning.{test, value_of}
use Rattle.cheri_c_sem.specs.Operations.{Operations, is_true}
use Rattle.cheri_c_sem.specs.Steps.{State, Fate, Then, ◌>>=◌, give, choose, answer}
use Rattle.cheri_c_sem.specs.Tree.{Ex, Nil, Number, Null, Not, And, Or, Conditional}
use Rattle.tac_ir.specs.Effects as effects
use Rattle.tac_ir.specs.Effects.{Next, To, kind_of, kind_at, held, way, no_position}
use Rattle.tac_ir.specs.Meaning.{Running, behind_turn, pass, follow}
use Rattle.tac_ir.specs.Temps.{behind}
use Rattle.tac_ir.specs.declared.code.Tac.{Tac}
use Rattle.tac_ir.specs.declared.code.TacInstr.{TacInstr}
use Rattle.tac_ir.specs.declared.code.TacInstr.TheVariants as instr
use Rattle.tac_ir.specs.declared.code.TacKind.{TacKind}
use Rattle.tac_ir.specs.declared.code.TacKind.TheVariants as kind
use Rattle.lower_runs.specs.States.{Scene, IsScene, IsPlaced, Agrees}
use Rattle.lower_runs.specs.Operating.{Code}
use Rattle.lower_runs.specs.Expressions.{Mark, labelled, spares, int_kind, same, is_junction, choice_code, guarded_code}
use Rattle.lower_runs.specs.Expressions.{jump_if}
use Rattle.lower_runs.specs.Simulation.{IsPiece, HasRoom, Done, OperandRuns, ConditionRuns, ValueRuns}
use Rattle.lower_runs.specs.Simulation.{goes, kinds}
use Rattle.lower_runs.proofs.Agreement.{and_left, and_right, done_start, done_less, done_then, done_valued}
use Rattle.lower_runs.proofs.Agreement.{done_labelled}
use Rattle.lower_runs.proofs.Labels.{nothing_own, pass_label, found_label, both_own, then_own, choice_own, guarded_own}
use Rattle.lower_runs.proofs.Labels.{to_other}
use Rattle.lower_runs.proofs.Labels.{to_end, seeks, jumps}
use Rattle.lower_runs.proofs.Steps.{compares, held_is, kept_zero}

module _ (ops : Operations Store) (placed : IsPlaced ops) (w : World) (t : Tac) (p : Typed)
    (objects : ℕ → List ℕ) (r : Running) (call : ℕ → List Value → Then Store Value) (g : Scene)
    (scene : IsScene g) where
  abbrev run : List TacInstr → State Store → List (Option Value) → Fate
  run = goes ops w t p objects r call g

  abbrev Condition_runs : (k : TacKind) (e : Ex) (when : Bool) (label : ℕ) (m n : Mark) (c : Code) → Type 0
  Condition_runs = ConditionRuns ops w t p objects r call g

  -- ---- truth values

  -- a part gives the truth of another
  abbrev Truths : Then Store Value → Then Store Bool → Type 0
  Truths c d = (s : State Store) (l : Value → State Store → Fate) → c s l ≡ d s (λ b. l (truth b))

  pub truth_test : (q : Pos) (b : Bool) (s : State Store) (l : Bool → State Store → Fate) →
      test ops w q (kind_of int_kind) (truth b) s l ≡ l b s
  unfolding compare_of value_of_kind Rattle.ck_int.specs.Kinds.reduced
  truth_test q true s l = refl
  truth_test q false s l = refl

  tested : (q : Pos) (c : Then Store Value) (d : Then Store Bool) → Truths c d →
      (s : State Store) (l : Bool → State Store → Fate) →
      (c >>= test ops w q (kind_of int_kind)) s l ≡ d s l
  tested q c d h s l = h s (λ v u. test ops w q (kind_of int_kind) v u l)
      ∙ ap (d s) (fun_ext (λ b. fun_ext (λ u. truth_test q b u l)))

  -- both operands are true; one of them is
  abbrev both : Pos → Kind → Kind → Ex → Ex → Then Store Bool
  both q j k a b = value_of ops w call a >>= test ops w q j
      >>= (λ c. choose c (value_of ops w call b >>= test ops w q k) (give false))

  abbrev either : Pos → Kind → Kind → Ex → Ex → Then Store Bool
  either q j k a b = value_of ops w call a >>= test ops w q j
      >>= (λ c. choose c (give true) (value_of ops w call b >>= test ops w q k))

  both_truths : (q : Pos) (j k : Kind) (a b : Ex) → Truths (value_of ops w call (And q j k a b)) (both q j k a b)
  both_truths q j k a b s l =
      ap (value_of ops w call a s) (fun_ext (λ x.
      fun_ext (λ u. ap (test ops w q j x u) (fun_ext (λ c. fun_ext (λ z. by c z))))))
    where
      by : (c : Bool) (z : State Store)
          → choose c (value_of ops w call b >>= λ y. test ops w q k y >>= λ d. give (truth d)) (give (truth false)) z l
          ≡ choose c (value_of ops w call b >>= test ops w q k) (give false) z (λ d. l (truth d))
      by true z = refl
      by false z = refl

  either_truths : (q : Pos) (j k : Kind) (a b : Ex) → Truths (value_of ops w call (Or q j k a b)) (either q j k a b)
  either_truths q j k a b s l =
      ap (value_of ops w call a s) (fun_ext (λ x.
      fun_ext (λ u. ap (test ops w q j x u) (fun_ext (λ c. fun_ext (λ z. by c z))))))
    where
      by : (c : Bool) (z : State Store)
          → choose c (give (truth true)) (value_of ops w call b >>= λ y. test ops w q k y >>= λ d. give (truth d)) z l
          ≡ choose c (give true) (value_of ops w call b >>= test ops w q k) z (λ d. l (truth d))
      by true z = refl
      by false z = refl

  -- what the value of `&&` or `||` comes to is what its truth comes to
  pub junction_truth : (q : Pos) (e : Ex) → is_junction e ≡ true → (s : State Store) (l : Value → State Store → Fate) →
      value_of ops w call e s l ≡ (value_of ops w call e >>= test ops w q (kind_of int_kind)) s (λ b. l (truth b))
  junction_truth q (And o j k a b) h s l =
      both_truths o j k a b s l ∙ sym (tested q _ (both o j k a b) (both_truths o j k a b) s (λ d. l (truth d)))
  junction_truth q (Or o j k a b) h s l =
      either_truths o j k a b s l ∙ sym (tested q _ (either o j k a b) (either_truths o j k a b) s (λ d. l (truth d)))
  junction_truth q e h s l = absurd cc

  -- ---- branches

  -- a branch whose truth is known goes on behind the label, or on
  pub went_by : (when b : Bool) (label : ℕ) (rest : List TacInstr) (u : State Store) (us : List (Option Value))
      → run (if same when b then behind label rest else rest) u us
      ≡ follow ops w t p objects (behind_turn ops w t p objects u.left)
      (pass ops w t p objects (behind_turn ops w t p objects u.left) rest) rest r
      (way ops w p (effects.same ops w p when b) label) (record u { vars = us })
  went_by true true label rest u us =
      sym (seeks ops w t p objects (behind_turn ops w t p objects u.left) rest label r (record u { vars = us }))
  went_by true false label rest u us = refl
  went_by false true label rest u us = refl
  went_by false false label rest u us =
      sym (seeks ops w t p objects (behind_turn ops w t p objects u.left) rest label r (record u { vars = us }))

  pub branch_condition : (k : TacKind) (e : Ex) (at : ℕ) (when : Bool) (label : ℕ) (m n : Mark) (c : Code) →
      OperandRuns ops w t p objects r call g Nil k e at m n c →
      kind_at (kinds ops w t p objects r call g) at ≡ kind_of k
      → Condition_runs k e when label m n (λ rest. c (instr.Branch at when label ∷ rest))
  branch_condition k e at when label m n c h hk = record {
    piece = then_own m n n c (λ rest. instr.Branch at when label ∷ rest) (omega arith) refl (λ o rest. refl) h.piece;
    runs = λ q s ts l rest room lt ag go.
        h.runs s ts (λ v u. test ops w q (kind_of k) v u l) (instr.Branch at when label ∷ rest) room ag
        (λ v u us a.
        let o = compares ops placed u.mem Ne (kind_of k) v (Rattle.cheri_c_sem.specs.Kinds.zero_of (kind_of k)) in
        let after : Result Bool Fault → Fate = λ z. answer no_position z (record u { vars = us })
        (λ b. follow ops w t p objects (behind_turn ops w t p objects u.left)
        (pass ops w t p objects (behind_turn ops w t p objects u.left) rest) rest r
        (way ops w p (effects.same ops w p when b) label)) in
        ap (λ z. answer q z u l) o.1 ∙ go o.0 u us a.done ∙ went_by when o.0 label rest u us
        ∙ sym (ap after (ap (λ i. is_true ops u.mem i (held (slice_get us at))) hk
        ∙ ap (is_true ops u.mem (kind_of k)) (held_is ops w t p objects r call g scene us at v a.value)
        ∙ o.1)));
  }

  -- ---- constants

  -- a jump where the truth is `when`
  jump_plain : (b : Bool) (label o : ℕ) (rest : List TacInstr) → behind o (jump_if b label rest) ≡ behind o rest
  jump_plain true label o rest = refl
  jump_plain false label o rest = refl

  jumps_if : (b : Bool) (label : ℕ) (rest : List TacInstr) (s : State Store) (ts : List (Option Value)) →
      run (if b then behind label rest else rest) s ts ≡ run (jump_if b label rest) s ts
  jumps_if true label rest s ts = sym (jumps ops w t p objects r call g label rest s ts)
  jumps_if false label rest s ts = refl

  -- a constant whose truth is known
  constant_condition : (k : TacKind) (e : Ex) (v : Value) (b when : Bool) (label : ℕ) (m : Mark)
      → ((s : State Store) (l : Value → State Store → Fate) → value_of ops w call e s l ≡ l v s) →
      ((m : Store) → is_true ops m (kind_of k) v ≡ Ok b) →
      Condition_runs k e when label m m (jump_if (same when b) label)
  constant_condition k e v b when label m means truth_is = record {
    piece = then_own m m m (λ rest. rest) (jump_if (same when b) label) (omega arith) refl
        (λ o rest. jump_plain (same when b) label o rest) (nothing_own m);
    runs = λ q s ts l rest room lt ag go.
        means s (λ x u. test ops w q (kind_of k) x u l) ∙ ap (λ z. answer q z s l) (truth_is s.mem)
        ∙ go b s ts (done_start ops g scene (λ i. spares i e) m s ts ag) ∙ jumps_if (same when b) label rest s ts;
  }

  pub number_condition : (k : IntKind) (v label : ℕ) (when : Bool) (m : Mark) → IsKept k v →
      Condition_runs (kind.Int k) (Number v) when label m m (jump_if (same when (not (v == 0))) label)
  number_condition k v label when m h =
      constant_condition (kind.Int k) (Number v) (value.Int v) (not (v == 0)) when label m (λ s l. refl)
      (λ z. ap Ok (compare_of-Ne k v 0 ∙ ap not (compare_of-Eq_kept k v 0 h (kept_zero k))))

  pub null_condition : (z : Bool) (v label : ℕ) (when : Bool) (m : Mark) →
      Condition_runs (kind.Cap z) (Null v) when label m m (jump_if (same when (not (v == 0))) label)
  null_condition z v label when m =
      constant_condition (kind.Cap z) (Null v) (null_at v) (not (v == 0)) when label m (λ s l. refl)
      (λ i. placed.compare_null i z (null_at v) v (placed.address_null i v))

  -- ---- `!`

  turned : (when b : Bool) → same when (not b) ≡ same (not when) b
  turned true b = refl
  turned false true = refl
  turned false false = refl

  pub opposite_condition : (q : Pos) (k : TacKind) (e : Ex) (when : Bool) (label : ℕ) (m n : Mark) (c : Code) →
      Condition_runs k e (not when) label m n c → Condition_runs int_kind (Not q (kind_of k) e) when label m n c
  opposite_condition q k e when label m n c h = record {
    piece = h.piece;
    runs = λ o s ts l rest room lt ag go.
        ap (value_of ops w call e s) (fun_ext (λ v.
        fun_ext (λ u. ap (test ops w q (kind_of k) v u)
        (fun_ext (λ b. fun_ext (λ z. truth_test o (not b) z l))))))
        ∙ h.runs q s ts (λ b. l (not b)) rest room lt ag
        (λ b u us d. go (not b) u us d
        ∙ ap (λ z. run (if z then behind label rest else rest) u us) (turned when b));
  }

  -- ---- `&&` and `||`

  module _ (q : Pos) (j k : TacKind) (a b : Ex) (label : ℕ) (l m n : Mark) (c d : Code) where
    abbrev keeps : ℕ → Bool
    keeps i = spares i a && spares i b

    -- behind the first operand; behind both
    first : (s u : State Store) (ts us : List (Option Value)) → Done ops g (λ i. spares i a) l s ts u us →
        Done ops g keeps l s ts u us
    first s u ts us h = done_less ops g scene (λ i. spares i a) keeps l l s u ts us
        (λ i e. and_left (spares i a) (spares i b) e) (omega arith) h

    second : (s u v : State Store) (ts us vs : List (Option Value)) → l.temps ≤ m.temps →
        Done ops g (λ i. spares i a) l s ts u us → Done ops g (λ i. spares i b) m u us v vs →
        Done ops g keeps l s ts v vs
    second s u v ts us vs le h i =
        done_then ops g scene (λ i. spares i a) (λ i. spares i b) keeps l m s u v ts us vs
        (λ i e. and_left (spares i a) (spares i b) e) (λ i e. and_right (spares i a) (spares i b) e) le h i

    -- both operands lead to the label
    pub both_condition : Condition_runs j a false label l m c → Condition_runs k b false label m n d →
        Condition_runs int_kind (And q (kind_of j) (kind_of k) a b) false label l n (λ rest. c (d rest))
    both_condition f h = record {
      piece = both_own l m n c d f.piece h.piece;
      runs = λ o s ts next rest room lt ag go.
          let low = room.low in let high = room.high in let lm = f.piece.temps in let mn = h.piece.temps in
          let lbl = f.piece.labels in
          tested o _ (both q (kind_of j) (kind_of k) a b) (both_truths q (kind_of j) (kind_of k) a b) s next
          ∙ f.runs q s ts (λ x z. choose x (value_of ops w call b >>= test ops w q (kind_of k)) (give false) z next)
          (d rest) (record { low = low; high = omega arith }) lt ag (λ x u us one.
          let by : (x : Bool) → choose x (value_of ops w call b >>= test ops w q (kind_of k)) (give false) u next
          ≡ run (if same false x then behind label (d rest) else d rest) u us = elim [
            | true ↦ h.runs q u us next rest (record { low = omega arith; high = high }) (omega arith) one.agrees
                (λ y v vs two. go y v vs (second s u v ts us vs lm one two))
            | false ↦ go false u us (first s u ts us one)
                ∙ ap (λ z. run z u us) (sym (h.piece.own label rest (λ le. absurd (omega arith))))
          ] in by x);
    }

    pub either_condition : Condition_runs j a true label l m c → Condition_runs k b true label m n d →
        Condition_runs int_kind (Or q (kind_of j) (kind_of k) a b) true label l n (λ rest. c (d rest))
    either_condition f h = record {
      piece = both_own l m n c d f.piece h.piece;
      runs = λ o s ts next rest room lt ag go.
          let low = room.low in let high = room.high in let lm = f.piece.temps in let mn = h.piece.temps in
          let lbl = f.piece.labels in
          tested o _ (either q (kind_of j) (kind_of k) a b) (either_truths q (kind_of j) (kind_of k) a b) s next
          ∙ f.runs q s ts (λ x z. choose x (give true) (value_of ops w call b >>= test ops w q (kind_of k)) z next)
          (d rest) (record { low = low; high = omega arith }) lt ag (λ x u us one.
          let by : (x : Bool) → choose x (give true) (value_of ops w call b >>= test ops w q (kind_of k)) u next
          ≡ run (if same true x then behind label (d rest) else d rest) u us = elim [
            | true ↦ go true u us (first s u ts us one)
                ∙ ap (λ z. run z u us) (sym (h.piece.own label rest (λ le. absurd (omega arith))))
            | false ↦ h.runs q u us next rest (record { low = omega arith; high = high }) (omega arith) one.agrees
                (λ y v vs two. go y v vs (second s u v ts us vs lm one two))
          ] in by x);
    }

    -- the first one leads around the second
    around : (when y : Bool) (rest : List TacInstr) (v : State Store) (vs : List (Option Value)) → label < l.labels →
        run (if same when y then behind label rest else rest) v vs
        ≡ run (if same when y then behind label (instr.Label l.labels ∷ rest) else instr.Label l.labels ∷ rest) v vs
    around when y rest v vs lt = by (same when y)
      where
        by : (z : Bool) → run (if z then behind label rest else rest) v vs
            ≡ run (if z then behind label (instr.Label l.labels ∷ rest) else instr.Label l.labels ∷ rest) v vs
        by true = ap (λ z. run z v vs) (sym (pass_label l.labels label rest (λ e. absurd (omega arith))))
        by false = refl

    over : IsPiece m n d → l.labels + 1 ≤ m.labels → (rest : List TacInstr) →
        behind l.labels (d (instr.Label l.labels ∷ rest)) ≡ rest
    over h le rest = h.own l.labels (instr.Label l.labels ∷ rest) (λ z. absurd (omega arith))
        ∙ found_label l.labels rest

    pub both_around : Condition_runs j a false l.labels (labelled 1 l) m c → Condition_runs k b true label m n d →
        Condition_runs int_kind (And q (kind_of j) (kind_of k) a b) true label l n (guarded_code l.labels c d)
    both_around f h = record {
      piece = guarded_own l m n c d f.piece h.piece;
      runs = λ o s ts next rest room lt ag go.
          let low = room.low in let high = room.high in let lm = f.piece.temps in let mn = h.piece.temps in
          let lbl = f.piece.labels in
          tested o _ (both q (kind_of j) (kind_of k) a b) (both_truths q (kind_of j) (kind_of k) a b) s next
          ∙ f.runs q s ts (λ x z. choose x (value_of ops w call b >>= test ops w q (kind_of k)) (give false) z next)
          (d (instr.Label l.labels ∷ rest)) (record { low = low; high = omega arith }) (omega arith) ag
          (λ x u us one.
          let by : (x : Bool) → choose x (value_of ops w call b >>= test ops w q (kind_of k)) (give false) u next
          ≡ run (if same false x then behind l.labels (d (instr.Label l.labels ∷ rest))
          else d (instr.Label l.labels ∷ rest)) u us = elim [
            | true ↦ h.runs q u us next (instr.Label l.labels ∷ rest) (record { low = omega arith; high = high })
                (omega arith) one.agrees
                (λ y v vs two. go y v vs (second s u v ts us vs lm
                (done_labelled ops g scene (λ i. spares i a) 1 l s u ts us one) two)
                ∙ around true y rest v vs lt)
            | false ↦ go false u us (first s u ts us (done_labelled ops g scene (λ i. spares i a) 1 l s u ts us one))
                ∙ ap (λ z. run z u us) (sym (over h.piece (omega arith) rest))
          ] in by x);
    }

    pub either_around : Condition_runs j a true l.labels (labelled 1 l) m c → Condition_runs k b false label m n d →
        Condition_runs int_kind (Or q (kind_of j) (kind_of k) a b) false label l n (guarded_code l.labels c d)
    either_around f h = record {
      piece = guarded_own l m n c d f.piece h.piece;
      runs = λ o s ts next rest room lt ag go.
          let low = room.low in let high = room.high in let lm = f.piece.temps in let mn = h.piece.temps in
          let lbl = f.piece.labels in
          tested o _ (either q (kind_of j) (kind_of k) a b) (either_truths q (kind_of j) (kind_of k) a b) s next
          ∙ f.runs q s ts (λ x z. choose x (give true) (value_of ops w call b >>= test ops w q (kind_of k)) z next)
          (d (instr.Label l.labels ∷ rest)) (record { low = low; high = omega arith }) (omega arith) ag
          (λ x u us one.
          let by : (x : Bool) → choose x (give true) (value_of ops w call b >>= test ops w q (kind_of k)) u next
          ≡ run (if same true x then behind l.labels (d (instr.Label l.labels ∷ rest))
          else d (instr.Label l.labels ∷ rest)) u us = elim [
            | true ↦ go true u us (first s u ts us (done_labelled ops g scene (λ i. spares i a) 1 l s u ts us one))
                ∙ ap (λ z. run z u us) (sym (over h.piece (omega arith) rest))
            | false ↦ h.runs q u us next (instr.Label l.labels ∷ rest) (record { low = omega arith; high = high })
                (omega arith) one.agrees
                (λ y v vs two. go y v vs (second s u v ts us vs lm
                (done_labelled ops g scene (λ i. spares i a) 1 l s u ts us one) two)
                ∙ around false y rest v vs lt)
          ] in by x);
    }

  -- ---- choices: of two parts that do the same with a state, given that they go on alike

  -- what a choice comes to, where its ways do the same as their code
  pub chosen : {A : Type 0} (j : TacKind) (q : Pos) (e : Ex) (x y : Then Store A) (l m n o : Mark) (c d f : Code) →
      Condition_runs j e false l.labels (labelled 2 l) m c → IsPiece m n d → IsPiece n o f
      → (s : State Store) (ts : List (Option Value)) (next : A → State Store → Fate) (rest : List TacInstr) →
      HasRoom g l o →
      Agrees ops g None s ts
      → ((u : State Store) (us : List (Option Value)) (after : List TacInstr) →
      Done ops g (λ i. spares i e) l s ts u us →
      ((v : State Store) (vs : List (Option Value)) → run after v vs ≡ run rest v vs) → x u next ≡ run (d after) u us)
      → ((u : State Store) (us : List (Option Value)) (after : List TacInstr) →
      Done ops g (λ i. spares i e) l s ts u us →
      ((v : State Store) (vs : List (Option Value)) → run after v vs ≡ run rest v vs) → y u next ≡ run (f after) u us)
      → (value_of ops w call e >>= test ops w q (kind_of j)) s (λ b z. choose b x y z next)
      ≡ run (choice_code l.labels c d f rest) s ts
  chosen j q e x y l m n o c d f h pd pf s ts next rest room ag first second =
      let low = room.low in let high = room.high in let lm = h.piece.temps in let mn = pd.temps in let no = pf.temps in
      let lbl = h.piece.labels in let dlbl = pd.labels in
      let last = instr.Label (l.labels + 1) ∷ rest in
      let way_one = instr.Jump (l.labels + 1) ∷ instr.Label l.labels ∷ f last in
      h.runs q s ts (λ b z. choose b x y z next) (d way_one) (record { low = low; high = omega arith }) (omega arith) ag
      (λ b u us one.
      let done = done_labelled ops g scene (λ i. spares i e) 2 l s u ts us one in
      let by : (b : Bool) → choose b x y u next
      ≡ run (if same false b then behind l.labels (d way_one) else d way_one) u us = elim [
        | true ↦ first u us way_one done (λ v vs.
            jumps ops w t p objects r call g (l.labels + 1) (instr.Label l.labels ∷ f last) v vs
            ∙ ap (λ z. run z v vs) (to_end l n o f rest (omega arith) pf))
        | false ↦ second u us last done (λ v vs. refl)
            ∙ ap (λ z. run z u us) (sym (to_other l m n o d f rest (omega arith) pd))
      ] in by b)

  pub chosen_value : (q : Pos) (j k : TacKind) (e a b : Ex) (to : ℕ) (l m n o : Mark) (c d f : Code) →
      Condition_runs j e false l.labels (labelled 2 l) m c → ValueRuns ops w t p objects r call g k a to m n d →
      ValueRuns ops w t p objects r call g k b to n o f
      → ValueRuns ops w t p objects r call g k (Conditional q (kind_of j) e a b) to l o (choice_code l.labels c d f)
  chosen_value q j k e a b to l m n o c d f h x y = record {
    piece = choice_own l m n o c d f h.piece x.piece y.piece;
    runs = λ s ts next rest room target ag go.
        let low = room.low in let high = room.high in let lm = h.piece.temps in let mn = x.piece.temps in
        let no = y.piece.temps in let lt = target.there in
        chosen j q e (value_of ops w call a) (value_of ops w call b) l m n o c d f h x.piece y.piece s ts next rest room
        ag
        (λ u us after one same_way. x.runs u us next after (record { low = omega arith; high = omega arith })
        (record { there = omega arith; free = target.free }) one.agrees
        (λ v z zs two. go v z zs (done_valued ops g scene k (λ i. spares i e) (λ i. spares i a)
        (λ i. spares i e && (spares i a && spares i b)) to l m s u z ts us zs v
        (λ i w2. and_left (spares i e) (spares i a && spares i b) w2)
        (λ i w2. and_left (spares i a) (spares i b) (and_right (spares i e) (spares i a && spares i b) w2)) lm one
        two) ∙ sym (same_way z zs)))
        (λ u us after one same_way. y.runs u us next after (record { low = omega arith; high = omega arith })
        (record { there = omega arith; free = target.free }) one.agrees
        (λ v z zs two. go v z zs (done_valued ops g scene k (λ i. spares i e) (λ i. spares i b)
        (λ i. spares i e && (spares i a && spares i b)) to l n s u z ts us zs v
        (λ i w2. and_left (spares i e) (spares i a && spares i b) w2)
        (λ i w2. and_right (spares i a) (spares i b) (and_right (spares i e) (spares i a && spares i b) w2))
        (omega arith) one two) ∙ sym (same_way z zs)));
  }
