-- The code of expressions reads variables that are declared, and temps that it has written.
use Rattle.std.proofs.Common.{◌≡◌, ℕ, ◌<◌, ◌≤◌, Bool, true, false, List, [], ◌∷◌, Option}
use Rattle.std.proofs.Common.{inl, inr, refl, subst, sym, zero, suc, arith}
use Rattle.std.specs.Prelude.{◌*◌, ◌%◌, ◌^◌}
use Rattle.ck_base.specs.declared.positions.Pos.{Pos}
use Rattle.c_tree.specs.declared.typed.Typed.{Typed}
use Rattle.cheri_c_sem.specs.Tree.{Ex, Exs, Declared}
use Rattle.tac_ir.specs.Temps.{in_option}
use Rattle.tac_ir.specs.declared.code.Amount.TheVariants as amount
use Rattle.tac_ir.specs.declared.code.TacInstr.{TacInstr}
use Rattle.tac_ir.specs.declared.code.TacInstr.TheVariants as instr
use Rattle.tac_ir.specs.declared.code.TacKind.{TacKind}
use Rattle.tac_ir.specs.declared.code.TacKind.TheVariants as kind
use Rattle.lower_runs.specs.Calling.{IsAsked}
use Rattle.lower_runs.specs.States.{Scene}
use Rattle.lower_runs.specs.Operating.{Code, stride, changed_temps, stepped_temps}
use Rattle.lower_runs.specs.Operating as operating
use Rattle.lower_runs.specs.Expressions as code
use Rattle.lower_runs.specs.Expressions.{Mark, Signature, Target, Reaches, more, int_kind, pointer_kind}
use Rattle.lower_runs.specs.Expressions.{IsOperand, IsOperandIn, IsPair, IsValue, IsEffect, IsPlaceEffect, IsCondition}
use Rattle.lower_runs.specs.Expressions.{IsPointer, IsPlace, IsAssignment, IsStructAssignment, IsCopy, IsArguments}
use Rattle.lower_runs.specs.Expressions.{IsCall, IsInPlace, IsBase, IsOwn, target_mark, target_temp}
use Rattle.lower_writes.specs.Naming.{Names, AllName}
use Rattle.lower_writes.proofs.Waiting.{Have, joined_has}
use Rattle.lower_writes.proofs.Straight.{IsStraight, base_of, AreAsMany, one, first, done, follow, from_more, transfers}
use Rattle.lower_writes.proofs.Straight.{gives, negates, signs as signs_of, computes, derives, moves, differs, changes}
use Rattle.lower_writes.proofs.Straight.{steps, reaches, serving}
use Rattle.lower_writes.proofs.Pieces as pieces
use Rattle.lower_writes.proofs.Pieces.{Covers, no_code, ends, after, after_more, alone, both, comma, choice, guarded}
use Rattle.lower_writes.proofs.Pieces.{branch_both, branch_around, branch_on, jumps, truth, unneeded, earlier, asking}

module _ (params : ℕ) (whole : List TacInstr) (often : ℕ) (g : Scene) (ds : List Declared) where
  abbrev Passes : List ℕ → List ℕ → Mark → Mark → Code → Type 0
  Passes = pieces.Passes params whole often g ds

  abbrev Branches : ℕ → Mark → Mark → Code → Type 0
  Branches = pieces.Branches params whole often g ds

  abbrev Straight : List ℕ → List ℕ → Code → Type 0
  Straight = IsStraight params whole often

  -- ---- what is in place

  in_place : {later : Exs} {k : TacKind} {e : Ex} {t : ℕ} → IsInPlace g later k e t → Names ds e → (ws : List ℕ) →
      Covers params g ds ws → Have params ws t
  in_place (code.variable {x = x} {t = t} {k = k} e s) names ws c =
      c.home x (record { temp = t; kind = k }) names e
  in_place (code.object {n = o} {t = t} e) names ws c = c.spot o t names e
  in_place (code.converted h) names ws c = in_place h names ws c

  base_in_place : {e : Ex} {t : ℕ} → IsBase g e t → Names ds e → (ws : List ℕ) → Covers params g ds ws →
      Have params ws t
  base_in_place (code.deref h) names ws c = in_place h names ws c
  base_in_place (code.local {n = o} {t = t} e) names ws c = c.spot o t names e
  base_in_place (code.aggregate h) names ws c = base_in_place h names ws c

  own_piece : {to : Option ℕ} {t : ℕ} {m n : Mark} → IsOwn g to t m n → (m.temps ≤ n.temps) × (m.labels ≡ n.labels)
  own_piece (code.given le) = (omega arith, refl)
  own_piece code.fresh = (omega arith, refl)

  target_piece : (to : Target) (m : Mark) →
      (m.temps ≤ (target_mark to m).temps) × (m.labels ≡ (target_mark to m).labels)
  target_piece (Reaches t) m = (omega arith, refl)
  target_piece (code.Within base zero) m = (omega arith, refl)
  target_piece (code.Within base (suc n)) m = (omega arith, refl)

  module _ (p : Typed) (signs : ℕ → Signature) (kinds : List TacKind) where
    many_arguments : {es : Exs} {ks : List TacKind} {ts : List ℕ} {m n : Mark} {c : Code} →
        IsArguments p signs kinds g es ks ts m n c → AreAsMany ks ts
    many_arguments code.arguments_none = tt
    many_arguments (code.arguments_one h g) = many_arguments g

    mutual
      pub operand : {later : Exs} {k : TacKind} {e : Ex} {t : ℕ} {m n : Mark} {c : Code} →
          IsOperand p signs kinds g later k e t m n c → Names ds e → Passes [] (t ∷ []) m n c
      operand (code.operand_in_place {t = t} {m = m} h) names =
          no_code (t ∷ []) m (λ ws k. (in_place h names ws k, tt))
      operand (code.operand_fresh {m = m} h) names = earlier m (omega arith, refl) (value h names)

      operand_in : {k : TacKind} {e : Ex} {to t : ℕ} {m n : Mark} {c : Code} →
          IsOperandIn p signs kinds g k e to t m n c → Names ds e → Passes [] (t ∷ []) m n c
      operand_in (code.given_in_place {t = t} {m = m} h) names =
          no_code (t ∷ []) m (λ ws k. (in_place h names ws k, tt))
      operand_in (code.given_there h) names = value h names

      pair : {j k : TacKind} {a b : Ex} {x y : ℕ} {m n : Mark} {c : Code} →
          IsPair p signs kinds g j a x k b y m n c → Names ds a → Names ds b → Passes [] (x ∷ y ∷ []) m n c
      pair (code.pair {x = x} {y = y} h i) left right = both (x ∷ y ∷ [])
          (operand h left) (operand i right) (λ ws k. tt) (λ ws. (inr (inl refl), (inl refl, tt)))

      pub value : {k : TacKind} {e : Ex} {to : ℕ} {m n : Mark} {c : Code} → IsValue p signs kinds g k e to m n c →
          Names ds e → Passes [] (to ∷ []) m n c
      value (code.value_number {k = k} {v = v} {to = to} {m = m} h) names = alone m m (omega arith) refl
          (one (instr.Const to (kind.Int k) v) tt tt) (λ ws k. tt)
      value (code.value_null {s = s} {v = v} {to = to} {m = m} h) names = alone m m (omega arith) refl
          (one (instr.Const to (kind.Cap s) v) tt tt) (λ ws k. tt)
      value (code.value_variable {x = x} {t = t} {to = to} {k = k} {m = m} e) names =
          alone m m (omega arith) refl (transfers to t)
          (λ ws c. (c.home x (record { temp = t; kind = k }) names e, tt))
      value (code.value_load {k = k} {t = t} {to = to} {q = q} is h) names = after (pointer h names)
          (one (instr.Load to t k q) tt tt)
      value (code.value_address h) names = place h names
      value (code.value_unplaced {to = to} {m = m}) names = alone m m (omega arith) refl
          (one (instr.Const to pointer_kind 0) tt tt) (λ ws k. tt)
      value (code.value_narrowed {to = to} {w = w} h) names = after (place h names)
          (one (instr.Narrow to to (amount.Number w.owned) true) tt tt)
      value (code.value_kept h) names = value h names
      value (code.value_converted {j = j} {k = k} {t = t} {to = to} h) names = after (operand h names)
          (one (instr.Convert to t j k) tt tt)
      value (code.value_discarded {to = to} h) names = after (effect h names)
          (one (instr.Const to int_kind 0) tt tt)
      value (code.value_opposite {k = k} {t = t} {to = to} {n = n} h) names = after_more 1 (operand h names)
          (negates k to t n.temps)
      value (code.value_sign {k = k} {t = t} {to = to} {sign = sign} {n = n} h ints) names =
          after_more (operating.signed_temps sign k) (operand_in h names)
          (signs_of sign k to t n.temps)
      value (code.value_whole {op = op} {i = i} {k = k} {x = x} {y = y} {to = to} {n = n} h right ints) names =
          after_more (operating.right_temps op k) (pair h names.0 names.1)
          (computes op i k to x y n.temps)
      value (code.value_derived {op = op} {s = s} {right = right} {k = k} {x = x} {y = y} {to = to} {n = n} fits h
          ints) names =
          after_more (operating.address_temps op k) (pair h names.0 names.1)
          (derives op s right k to x y n.temps)
      value (code.value_moved {size = size} {minus = minus} {k = k} {x = x} {y = y} {to = to} {n = n} h ints) names =
          after_more (operating.moved_temps k (stride size minus)) (pair h names.0 names.1)
          (moves k (stride size minus) to x y n.temps)
      value (code.value_moved_right {size = size} {minus = minus} {k = k} {x = x} {y = y} {to = to} {n = n} h ints)
          names =
          after_more (operating.moved_temps k (stride size minus)) (pair h names.0 names.1)
          (from_more (moves k (stride size minus) to y x n.temps)
          (λ ws h. (h.1.0, (h.0, tt))))
      value (code.value_displaced {size = size} {v = v} {minus = minus} {t = t} {to = to} is h) names =
          after (operand_in h names.0)
          (one (instr.Offset to t (amount.Number (stride size minus * v % 2 ^ 64))) tt tt)
      value (code.value_displaced_right {size = size} {v = v} {minus = minus} {t = t} {to = to} is h) names =
          after (operand_in h names.1)
          (one (instr.Offset to t (amount.Number (stride size minus * v % 2 ^ 64))) tt tt)
      value (code.value_difference {size = size} {x = x} {y = y} {to = to} {n = n} h ints) names =
          after_more 2 (pair h names.0 names.1)
          (differs size to x y n.temps)
      value (code.value_compare {op = op} {k = k} {x = x} {y = y} {to = to} h) names =
          after (pair h names.0 names.1)
          (one (instr.Cmp op k to x y) tt tt)
      value (code.value_truth {to = to} {m = m} {n = n} {c = c} is h) names =
          truth to m n c (condition h names (omega arith))
      value (code.value_choice h i j) names =
          choice (condition h names.0 (omega arith)) (value i names.1) (value j names.2)
      value (code.value_comma h i) names = comma (effect h names.0) (value i names.1)
      value (code.value_assignment h) names = assignment h names
      value (code.value_call h) names = call h names tt

      pub effect : {e : Ex} {m n : Mark} {c : Code} → IsEffect p signs kinds g e m n c → Names ds e → Passes [] [] m n c
      effect (code.effect_still {m = m} is) names = no_code [] m (λ ws k. tt)
      effect (code.effect_convert h) names = effect h names
      effect (code.effect_discard h) names = effect h names
      effect (code.effect_comma h i) names = comma (effect h names.0) (effect i names.1)
      effect (code.effect_choice h i j) names =
          choice (condition h names.0 (omega arith)) (effect i names.1) (effect j names.2)
      effect (code.effect_both h i) names =
          guarded (condition h names.0 (omega arith)) (effect i names.1)
      effect (code.effect_either h i) names =
          guarded (condition h names.0 (omega arith)) (effect i names.1)
      effect (code.effect_deref h) names = effect h names
      effect (code.effect_member h) names = place_effect h names
      effect (code.effect_aggregate h) names = place_effect h names
      effect (code.effect_assignment h) names = assignment h names
      effect (code.effect_struct h) names = unneeded (struct h names)
      effect (code.effect_call h) names = call h names tt
      effect (code.effect_value {m = m} h) names =
          unneeded (earlier m (omega arith, refl) (value h names))

      place_effect : {e : Ex} {m n : Mark} {c : Code} → IsPlaceEffect p signs kinds g e m n c → Names ds e →
          Passes [] [] m n c
      place_effect (code.place_effect_still {m = m} is) names = no_code [] m (λ ws k. tt)
      place_effect (code.place_effect_deref h) names = effect h names
      place_effect (code.place_effect_member h) names = place_effect h names
      place_effect (code.place_effect_aggregate h) names = place_effect h names
      place_effect (code.place_effect_comma h i) names =
          comma (effect h names.0) (place_effect i names.1)
      place_effect (code.place_effect_choice h i j) names = choice
          (condition h names.0 (omega arith)) (place_effect i names.1) (place_effect j names.2)
      place_effect (code.place_effect_struct h) names = unneeded (struct h names)

      pub condition : {k : TacKind} {e : Ex} {when : Bool} {label : ℕ} {m n : Mark} {c : Code} →
          IsCondition p signs kinds g k e when label m n c → Names ds e → label < m.labels → Branches label m n c
      condition (code.condition_number {k = k} {v = v} {label = label} {when = when} {m = m} h) names below =
          jumps _ label m
      condition (code.condition_null {v = v} {label = label} {when = when} {m = m}) names below =
          jumps _ label m
      condition (code.condition_opposite h) names below = condition h names below
      condition (code.condition_both {l = l} {m = m} h i) names below = let a = condition h names.0 below in
          branch_both below a
          (condition i names.1 (let le = a.piece.labels in omega arith))
      condition (code.condition_either {l = l} {m = m} h i) names below = let a = condition h names.0 below in
          branch_both below a
          (condition i names.1 (let le = a.piece.labels in omega arith))
      condition (code.condition_both_around {l = l} {m = m} h i) names below =
          let a = condition h names.0 (omega arith) in
          branch_around below a
          (condition i names.1 (let le = a.piece.labels in omega arith))
      condition (code.condition_either_around {l = l} {m = m} h i) names below =
          let a = condition h names.0 (omega arith) in
          branch_around below a
          (condition i names.1 (let le = a.piece.labels in omega arith))
      condition (code.condition_branch {t = t} {when = when} {label = label} h is) names below =
          branch_on t when label (operand h names)

      pointer : {later : Exs} {e : Ex} {t : ℕ} {m n : Mark} {c : Code} → IsPointer p signs kinds g later e t m n c →
          Names ds e → Passes [] (t ∷ []) m n c
      pointer (code.pointer_deref h) names = operand h names
      pointer (code.pointer_local {o = o} {t = t} {m = m} e) names =
          no_code (t ∷ []) m (λ ws k. (k.spot o t names e, tt))
      pointer (code.pointer_aggregate h) names = pointer h names
      pointer (code.pointer_fresh {m = m} h) names = earlier m (omega arith, refl) (place h names)

      place : {e : Ex} {to : ℕ} {m n : Mark} {c : Code} → IsPlace p signs kinds g e to m n c → Names ds e →
          Passes [] (to ∷ []) m n c
      place (code.place_local {o = o} {t = t} {to = to} {m = m} e) names =
          alone m m (omega arith) refl (transfers to t)
          (λ ws c. (c.spot o t names e, tt))
      place (code.place_global {o = o} {to = to} {m = m}) names = alone m m (omega arith) refl
          (one (instr.Global to o false) tt tt) (λ ws k. tt)
      place (code.place_literal {o = o} {to = to} {m = m}) names = alone m m (omega arith) refl
          (one (instr.Global to o true) tt tt) (λ ws k. tt)
      place (code.place_function {f = f} {to = to} {m = m}) names = alone m m (omega arith) refl
          (one (instr.Function to f) tt tt) (λ ws k. tt)
      place (code.place_deref h) names = value h names
      place (code.place_member_of {t = t} {to = to} {offset = offset} {m = m} h) names =
          alone m m (omega arith) refl
          (one (instr.Offset to t (amount.Number offset)) tt tt)
          (λ ws k. (base_in_place h names ws k, tt))
      place (code.place_member {to = to} {offset = offset} h) names = after (place h names)
          (one (instr.Offset to to (amount.Number offset)) tt tt)
      place (code.place_aggregate h) names = place h names
      place (code.place_comma h i) names = comma (effect h names.0) (place i names.1)
      place (code.place_choice h i j) names =
          choice (condition h names.0 (omega arith)) (place i names.1) (place j names.2)
      place (code.place_assigned {t = t} {to = to} h) names =
          after (struct h names) (transfers to t)

      assignment : {k : TacKind} {e : Ex} {to : Option ℕ} {m n : Mark} {c : Code} →
          IsAssignment p signs kinds g k e to m n c → Names ds e → Passes [] (in_option to) m n c
      assignment (code.assignment_variable {t = t} {to = to} e h) names = after (value h names.1)
          (gives to t)
      assignment (code.assignment_object {k = k} {at = at} {t = t} {q = q} is h i) names =
          after (both (at ∷ t ∷ []) (pointer h names.0) (operand i names.1) (λ ws h. tt)
          (λ ws. (inr (inl refl), (inl refl, tt)))) (one (instr.Store at t k q) tt tt)
      assignment (code.assignment_object_value {k = k} {at = at} {t = t} {to = to} {q = q} {m = m} is h own i) names =
          after (both (at ∷ t ∷ []) (pointer h names.0) (earlier m (own_piece own) (value i names.1)) (λ ws h. tt)
          (λ ws. (inr (inl refl), (inl refl, tt))))
          (first (instr.Store at t k q) tt tt (λ ws h. h) (from_more (transfers to t) (λ ws h. h.1)))
      assignment (code.assignment_changed_variable {op = op} {j = j} {k = k} {x = x} {t = t} {y = y} {to = to} {n = n}
          e is h
          ints) names =
          ends {all = t ∷ y ∷ []} (more (changed_temps op j k) n) (omega arith) refl (operand h names.1)
          (follow (changes op j k t y n.temps) (from_more (gives to t) (λ ws h. (h.0, tt))))
          (λ ws c h. (inr (c.home x (record { temp = t; kind = j }) names.0 e), (inl refl, tt)))
      assignment (code.assignment_changed_object {op = op} {j = j} {k = k} {at = at} {t = t} {y = y} {to = to} {s = s}
          {o = o} at_pos is h i own ints) names =
          let low = own_piece own in
          ends {all = at ∷ y ∷ []} (more (changed_temps op j k) o) (let le = low.0 in omega arith) low.1
          (both (at ∷ y ∷ []) (pointer h names.0) (operand i names.1) (λ ws h. tt)
          (λ ws. (inr (inl refl), (inl refl, tt))))
          (first (instr.Load t at j s) tt tt (λ ws h. (h.0, tt))
          (follow (from_more (changes op j k t y o.temps) (λ ws h. (h.0, (h.1.1.0, tt))))
          (first (instr.Store at t j s) tt tt (λ ws h. (h.1.1.0, (h.0, tt)))
          (from_more (gives to t) (λ ws h. (h.0, tt))))))
          (λ ws c h. joined_has params (at ∷ y ∷ []) ws)
      assignment (code.assignment_stepped_variable {op = op} {computed = computed} {j = j} {x = x} {t = t} {to = to}
          {m = m}
          e is unasked ints) names =
          alone {ins = t ∷ []} m (more (stepped_temps op) m) (omega arith) refl
          (follow (steps op j computed t t m.temps is) (from_more (gives to t) (λ ws h. (h.0, tt))))
          (λ ws c. (c.home x (record { temp = t; kind = j }) names.0 e, tt))
      assignment (code.assignment_stepped_variable_old {op = op} {computed = computed} {j = j} {x = x} {t = t} {v = v}
          {to = to} {m = m} {n = n} e is own ints) names =
          let low = own_piece own in
          alone {ins = t ∷ []} m (more (stepped_temps op) n) (let le = low.0 in omega arith) low.1
          (first (instr.Copy v t) tt tt (λ ws h. h)
          (follow (from_more (steps op j computed t t n.temps is) (λ ws h. h.1))
          (from_more (transfers to v) (λ ws h. (h.1.0, tt)))))
          (λ ws c. (c.home x (record { temp = t; kind = j }) names.0 e, tt))
      assignment (code.assignment_stepped_object {op = op} {computed = computed} {j = j} {at = at} {t = t} {to = to}
          {s = s}
          {n = n} at_pos is unasked h own ints) names =
          let low = own_piece own in
          ends {all = at ∷ []} (more (stepped_temps op) n) (let le = low.0 in omega arith) low.1 (pointer h names.0)
          (first (instr.Load t at j s) tt tt (λ ws h. h)
          (follow (from_more (steps op j computed t t n.temps is) (λ ws h. (h.0, tt)))
          (first (instr.Store at t j s) tt tt (λ ws h. (h.1.1.0, (h.0, tt)))
          (from_more (gives to t) (λ ws h. (h.0, tt))))))
          (λ ws c h. joined_has params (at ∷ []) ws)
      assignment (code.assignment_stepped_object_old {op = op} {computed = computed} {j = j} {at = at} {t = t} {to = to}
          {s = s} {n = n} at_pos is h own ints) names =
          let low = own_piece own in
          ends {all = at ∷ []} (more 1 n) (let le = low.0 in omega arith) low.1 (pointer h names.0)
          (first (instr.Load t at j s) tt tt (λ ws h. h)
          (follow (from_more (steps op j computed n.temps t n.temps is) (λ ws h. (h.0, tt)))
          (first (instr.Store at n.temps j s) tt tt (λ ws h. (h.1.1.0, (h.0, tt)))
          (from_more (transfers to t) (λ ws h. (h.1.0, tt))))))
          (λ ws c h. joined_has params (at ∷ []) ws)

      struct : {e : Ex} {t : ℕ} {m n : Mark} {c : Code} → IsStructAssignment p signs kinds g e t m n c → Names ds e →
          Passes [] (t ∷ []) m n c
      struct (code.struct_copy {t = t} is h i) names = both (t ∷ [])
          (pointer h names.0) (copy i names.1) (λ ws h. (inl refl, tt)) (λ ws. (inl refl, tt))

      pub copy : {to : Target} {q : Pos} {bytes unit : ℕ} {e : Ex} {m n : Mark} {c : Code} →
          IsCopy p signs kinds g to q bytes unit e m n c → Names ds e →
          Passes (base_of to ∷ []) [] m n c
      copy (code.copy_choice h i j) names =
          choice (condition h names.0 (omega arith)) (copy i names.1) (copy j names.2)
      copy (code.copy_comma h i) names = comma (effect h names.0) (copy i names.1)
      copy (code.copy_aggregate h) names = copy h names
      copy (code.copy_plain {to = to} {s = s} {q = q} {bytes = bytes} {unit = unit} {t = t} {n = n} is h) names =
          let low = target_piece to n in
          ends {ins = base_of to ∷ []} {all = base_of to ∷ t ∷ []} (target_mark to n) low.0 low.1
          (asking (pointer h names))
          (follow (from_more (reaches to n) (λ ws h. (h.0, tt)))
          (first (instr.CopyUnits t (target_temp to n) bytes unit q s) tt tt (λ ws h. (h.1.1.0, (h.0, tt)))
          (done (λ ws h. tt)))) (λ ws c h. (inr h.0, (inl refl, tt)))

      arguments : {es : Exs} {ks : List TacKind} {ts : List ℕ} {m n : Mark} {c : Code} →
          IsArguments p signs kinds g es ks ts m n c → AllName ds es → Passes [] ts m n c
      arguments (code.arguments_none {m = m}) names = no_code [] m (λ ws k. tt)
      arguments (code.arguments_one {t = t} {ts = ts} h i) names = both (t ∷ ts)
          (operand h names.0) (arguments i names.1) (λ ws k. tt)
          (λ ws. joined_has params (t ∷ ts) ws)

      call : {k : Option TacKind} {e : Ex} {to : Option ℕ} {m n : Mark} {c : Code} →
          IsCall p signs kinds g k e to m n c → Names ds e → IsAsked to k → Passes [] (in_option to) m n c
      call (code.call_named {to = to} {f = f} {ts = ts} is lt same h) names asked = after
          (arguments h names.1) (one (instr.Call to f ts) tt tt)
      call (code.call_by_value {to = to} {v = v} {of = of} {ts = ts} {q = q} fits h i) names asked =
          after (both (v ∷ ts)
          (operand h names.0) (arguments i names.1) (λ ws k. tt)
          (λ ws. joined_has params (v ∷ ts) ws))
          (one (instr.CallValue to v of ts q) tt tt)
      call (code.call_library {k = k} {to = to} {service = service} {ks = ks} {ts = ts} is takes h) names asked =
          after (arguments h names) (serving service to ks ts takes
          (many_arguments h) (subst (IsAsked to) (sym is) asked))
