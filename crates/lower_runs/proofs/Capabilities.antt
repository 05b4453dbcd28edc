-- Values of operations on addresses: what derives from a capability, and pointers that move.
use Rattle.std.proofs.Common.{◌≡◌, ℕ, Bool, true, false, List, [], ◌∷◌}
use Rattle.std.proofs.Common.{refl, ap, subst, ◌∙◌}
use Rattle.std.specs.Prelude.{◌*◌, ◌%◌, ◌^◌}
use Rattle.std.proofs.Math.Path.{fun_ext}
use Rattle.ck_base.specs.World.{World}
use Rattle.ck_base.specs.declared.positions.Pos.{Pos}
use Rattle.ck_int.specs.Kinds.{IsKept}
use Rattle.ck_int.specs.declared.kinds.IntKind.{IntKind}
use Rattle.ck_int.specs.declared.kinds.IntOp.{IntOp}
use Rattle.c_tree.specs.declared.typed.Typed.{Typed}
use Rattle.obj_mem.specs.Values.{Value}
use Rattle.obj_mem.specs.Values as value
use Rattle.cheri_c_sem.specs.Kinds.{Plain, Capability}
use Rattle.cheri_c_sem.specs.Meaning.{value_of, operate_by, sign_by}
use Rattle.cheri_c_sem.specs.Modes.{Store}
use Rattle.cheri_c_sem.specs.Operations.{Operations, convert_by, plus_by, difference_by}
use Rattle.cheri_c_sem.specs.Steps.{State, Fate, Then, ask, answer}
use Rattle.cheri_c_sem.specs.Tree.{Ex, Sign, Derived, Moved, Apart, Binary, Unary}
use Rattle.tac_ir.specs.Effects.{kind_of}
use Rattle.tac_ir.specs.Meaning.{Running}
use Rattle.tac_ir.specs.declared.code.Amount.TheVariants as amount
use Rattle.tac_ir.specs.declared.code.Tac.{Tac}
use Rattle.tac_ir.specs.declared.code.TacInstr.{TacInstr}
use Rattle.tac_ir.specs.declared.code.TacInstr.TheVariants as instr
use Rattle.tac_ir.specs.declared.code.TacKind.{TacKind}
use Rattle.tac_ir.specs.declared.code.TacKind.TheVariants as kind
use Rattle.lower_runs.specs.States.{Scene, IsScene, IsPlaced}
use Rattle.lower_runs.specs.Operating.{Code, AreInts, long, derived, address_temps, signed, signed_temps, moved}
use Rattle.lower_runs.specs.Operating.{moved_temps, stride, difference}
use Rattle.lower_runs.specs.Expressions as code
use Rattle.lower_runs.specs.Expressions.{Mark, more, spares, pointer_kind, IsConstant}
use Rattle.lower_runs.specs.Simulation.{ValueRuns, OperandInRuns, PairRuns, BinaryRuns, kinds}
use Rattle.lower_runs.proofs.Agreement.{and_left, and_right}
use Rattle.lower_runs.proofs.Steps.{converts_same}
use Rattle.lower_runs.proofs.Operands.{binary_value, unary_in_value}
use Rattle.lower_runs.proofs.Values.{more_none}
use Rattle.lower_runs.proofs.Addresses.{derived_runs, signed_runs}
use Rattle.lower_runs.proofs.Moves.{moved_runs, displaced_runs, difference_runs}

module _ (ops : Operations Store) (placed : IsPlaced ops) (w : World) (t : Tac) (p : Typed)
    (objects : ℕ → List ℕ) (r : Running) (call : ℕ → List Value → Then Store Value) (g : Scene)
    (scene : IsScene g) where
  abbrev Value_runs : (k : TacKind) (e : Ex) (to : ℕ) (m n : Mark) (c : Code) → Type 0
  Value_runs = ValueRuns ops w t p objects r call g

  abbrev Pair_runs : (j : TacKind) (a : Ex) (x : ℕ) (k : TacKind) (b : Ex) (y : ℕ) (m n : Mark) (c : Code) → Type 0
  Pair_runs = PairRuns ops w t p objects r call g

  abbrev Operand_in_runs : (k : TacKind) (e : Ex) (to at : ℕ) (m n : Mark) (c : Code) → Type 0
  Operand_in_runs = OperandInRuns ops w t p objects r call g

  abbrev Ints : List TacInstr → Type 0
  Ints = AreInts (kinds ops w t p objects r call g)

  -- ---- capability integers

  pub derived_value : (op : IntOp) (s right plain : Bool) (k : TacKind) (a b : Ex) (q : Pos) (x y to : ℕ) (m n : Mark)
      (c : Code) → (right ≡ true → k ≡ kind.Cap s) → Pair_runs (kind.Cap s) a x k b y m n c →
      Ints (derived op s right k to x y n.temps [])
      → Value_runs (kind.Cap s) (Binary q (Derived op s (kind_of k) right plain) a b) to m (more (address_temps op k) n)
      (λ rest. c (derived op s right k to x y n.temps rest))
  derived_value op s right plain k a b q x y to m n c hk h ints =
      binary_value ops placed w t p objects r call g scene (kind.Cap s) k (kind.Cap s) a b
      (Binary q (Derived op s (kind_of k) right plain) a b) x y to (address_temps op k) m n
      (λ v z. ask q (λ o. operate_by ops w (Derived op s (kind_of k) right plain) o v z)) c
      (derived op s right k to x y n.temps) h
      (derived_runs ops placed w t p objects r call g scene q op s right plain k to x y n.temps hk ints)
      (λ s l. refl) (λ o z. z)

  pub sign_capability : (s : Bool) (e : Ex) (at to : ℕ) (q : Pos) (sign : Sign) (m n : Mark) (c : Code) →
      Operand_in_runs (kind.Cap s) e to at m n c → Ints (signed sign (kind.Cap s) to at n.temps [])
      → Value_runs (kind.Cap s) (Unary q sign (Capability s) e) to m (more (signed_temps sign (kind.Cap s)) n)
      (λ rest. c (signed sign (kind.Cap s) to at n.temps rest))
  sign_capability s e at to q sign m n c h ints =
      unary_in_value ops placed w t p objects r call g scene (kind.Cap s) (kind.Cap s) e
      (Unary q sign (Capability s) e) at to (signed_temps sign (kind.Cap s)) m n
      (λ v. ask q (λ o. sign_by ops w sign (Capability s) o v)) c (signed sign (kind.Cap s) to at n.temps) h
      (signed_runs ops placed w t p objects r call g scene q sign s to at n.temps ints) (λ s l. refl) (λ o z. z)

  -- ---- pointers

  pub moved_value : (size : ℕ) (minus : Bool) (k : TacKind) (a b : Ex) (x y to : ℕ) (q : Pos) (m n : Mark) (c : Code) →
      Pair_runs pointer_kind a x k b y m n c → Ints (moved k (stride size minus) to x y n.temps [])
      → Value_runs pointer_kind (Binary q (Moved size minus false (kind_of k)) a b) to m
      (more (moved_temps k (stride size minus)) n) (λ rest. c (moved k (stride size minus) to x y n.temps rest))
  moved_value size minus k a b x y to q m n c h ints =
      binary_value ops placed w t p objects r call g scene pointer_kind k pointer_kind a b
      (Binary q (Moved size minus false (kind_of k)) a b) x y to (moved_temps k (stride size minus)) m n
      (λ v z. ask q (λ o. plus_by ops o size minus (kind_of k) v z)) c (moved k (stride size minus) to x y n.temps) h
      (moved_runs ops placed w t p objects r call g scene q size minus to x y n.temps k ints) (λ s l. refl) (λ o z. z)

  -- the operands in the other order
  swapped : (i j k : TacKind) (to x y from extra : ℕ) (part : Value → Value → Then Store Value) (d : Code) →
      BinaryRuns ops w t p objects r call g i j k to x y from extra part d →
      BinaryRuns ops w t p objects r call g j i k to y x from extra (λ v z. part z v) d
  swapped i j k to x y from extra part d h =
      record { plain = h.plain; runs = λ v z u us hv hz room sound. h.runs z v u us hz hv room sound }

  pub moved_right : (size : ℕ) (minus : Bool) (k : TacKind) (a b : Ex) (x y to : ℕ) (q : Pos) (m n : Mark) (c : Code) →
      Pair_runs k a x pointer_kind b y m n c → Ints (moved k (stride size minus) to y x n.temps [])
      → Value_runs pointer_kind (Binary q (Moved size minus true (kind_of k)) a b) to m
      (more (moved_temps k (stride size minus)) n) (λ rest. c (moved k (stride size minus) to y x n.temps rest))
  moved_right size minus k a b x y to q m n c h ints =
      binary_value ops placed w t p objects r call g scene k pointer_kind pointer_kind a b
      (Binary q (Moved size minus true (kind_of k)) a b) x y to (moved_temps k (stride size minus)) m n
      (λ v z. ask q (λ o. plus_by ops o size minus (kind_of k) z v)) c (moved k (stride size minus) to y x n.temps) h
      (swapped pointer_kind k pointer_kind to y x n.temps (moved_temps k (stride size minus))
      (λ v z. ask q (λ o. plus_by ops o size minus (kind_of k) v z)) (moved k (stride size minus) to y x n.temps)
      (moved_runs ops placed w t p objects r call g scene q size minus to y x n.temps k ints)) (λ s l. refl) (λ o z. z)

  -- a constant is there without code
  constant_kept : (i : IntKind) (e : Ex) (v : ℕ) → IsConstant i e v → IsKept i v
  constant_kept i e v (code.number kept) = kept
  constant_kept i e v (code.converted {e = f} h) = constant_kept i f v h

  constant_is : (i : IntKind) (e : Ex) (v : ℕ) → IsConstant i e v → (s : State Store) (l : Value → State Store → Fate) →
      value_of ops w call e s l ≡ l (value.Int v) s
  constant_is i e v (code.number kept) s l = refl
  constant_is i e v (code.converted {e = f} {q = q} h) s l =
      constant_is i f v h s (λ x u. answer q (convert_by ops u.mem (Plain i) (Plain i) x) u l)
      ∙ ap (λ z. answer q z s l)
      (converts_same ops placed s.mem (Plain i) (value.Int v) (v, refl, constant_kept i f v h))

  pub displaced_value : (size v : ℕ) (minus : Bool) (i : IntKind) (a b : Ex) (at to : ℕ) (q : Pos) (m n : Mark)
      (c : Code) → IsConstant i b v → Operand_in_runs pointer_kind a to at m n c →
      Value_runs pointer_kind (Binary q (Moved size minus false (Plain i)) a b) to m n
      (λ rest. c (instr.Offset to at (amount.Number (stride size minus * v % 2 ^ 64)) ∷ rest))
  displaced_value size v minus i a b at to q m n c constant h =
      let d : Code = λ rest. instr.Offset to at (amount.Number (stride size minus * v % 2 ^ 64)) ∷ rest in
      subst (λ z. Value_runs pointer_kind (Binary q (Moved size minus false (Plain i)) a b) to m z (λ rest. c (d rest)))
      (more_none n)
      (unary_in_value ops placed w t p objects r call g scene pointer_kind pointer_kind a
      (Binary q (Moved size minus false (Plain i)) a b) at to 0 m n
      (λ x. ask q (λ o. plus_by ops o size minus (Plain i) x (value.Int v))) c d h
      (displaced_runs ops placed w t p objects r call g scene q size minus i v to at n.temps)
      (λ s l. ap (value_of ops w call a s) (fun_ext (λ x. fun_ext (λ u.
      constant_is i b v constant u (λ y z. answer q (plus_by ops z.mem size minus (Plain i) x y) z l)))))
      (λ o z. and_left (spares o a) (spares o b) z))

  pub displaced_right : (size v : ℕ) (minus : Bool) (i : IntKind) (a b : Ex) (at to : ℕ) (q : Pos) (m n : Mark)
      (c : Code) → IsConstant i a v → Operand_in_runs pointer_kind b to at m n c →
      Value_runs pointer_kind (Binary q (Moved size minus true (Plain i)) a b) to m n
      (λ rest. c (instr.Offset to at (amount.Number (stride size minus * v % 2 ^ 64)) ∷ rest))
  displaced_right size v minus i a b at to q m n c constant h =
      let d : Code = λ rest. instr.Offset to at (amount.Number (stride size minus * v % 2 ^ 64)) ∷ rest in
      subst (λ z. Value_runs pointer_kind (Binary q (Moved size minus true (Plain i)) a b) to m z (λ rest. c (d rest)))
      (more_none n)
      (unary_in_value ops placed w t p objects r call g scene pointer_kind pointer_kind b
      (Binary q (Moved size minus true (Plain i)) a b) at to 0 m n
      (λ x. ask q (λ o. plus_by ops o size minus (Plain i) x (value.Int v))) c d h
      (displaced_runs ops placed w t p objects r call g scene q size minus i v to at n.temps)
      (λ s l. constant_is i a v constant s (λ y u. value_of ops w call b u
      (λ x z. answer q (plus_by ops z.mem size minus (Plain i) x y) z l)))
      (λ o z. and_right (spares o a) (spares o b) z))

  pub difference_value : (size : ℕ) (a b : Ex) (x y to : ℕ) (q : Pos) (m n : Mark) (c : Code) →
      Pair_runs pointer_kind a x pointer_kind b y m n c → Ints (difference size to x y n.temps [])
      → Value_runs long (Binary q (Apart size) a b) to m (more 2 n)
      (λ rest. c (difference size to x y n.temps rest))
  difference_value size a b x y to q m n c h ints =
      binary_value ops placed w t p objects r call g scene pointer_kind pointer_kind long a b
      (Binary q (Apart size) a b) x y to 2 m n (λ v z. ask q (λ o. difference_by ops o size v z)) c
      (difference size to x y n.temps) h
      (difference_runs ops placed w t p objects r call g scene q size to x y n.temps ints) (λ s l. refl) (λ o z. z)
