-- The code of expressions is made of instructions that may stand in lowered code.
use Rattle.std.proofs.Common.{ℕ, ◌+◌, ◌≤◌, Bool, true, false, List, ◌∷◌, Option}
use Rattle.std.specs.Prelude.{◌*◌, ◌%◌, ◌^◌}
use Rattle.ck_base.specs.declared.positions.Pos.{Pos}
use Rattle.c_tree.specs.Layout.{size_limit}
use Rattle.c_tree.specs.declared.typed.Typed.{Typed}
use Rattle.cheri_c_sem.specs.Tree.{Ex, Exs}
use Rattle.tac_ir.specs.declared.code.Amount.TheVariants as amount
use Rattle.tac_ir.specs.declared.code.TacInstr.{TacInstr}
use Rattle.tac_ir.specs.declared.code.TacInstr.TheVariants as instr
use Rattle.tac_ir.specs.declared.code.TacKind.{TacKind}
use Rattle.tac_ir.specs.declared.code.TacKind.TheVariants as kind
use Rattle.lower_runs.specs.States.{Scene}
use Rattle.lower_runs.specs.Operating.{Code, stride}
use Rattle.lower_runs.specs.Expressions as code
use Rattle.lower_runs.specs.Expressions.{Mark, Signature, Target, int_kind, pointer_kind, IsOperand, IsOperandIn}
use Rattle.lower_runs.specs.Expressions.{IsPair, IsValue, IsEffect, IsPlaceEffect, IsCondition, IsPointer, IsPlace}
use Rattle.lower_runs.specs.Expressions.{IsAssignment, IsStructAssignment, IsCopy, IsArguments, IsCall, target_temp}
use Rattle.lower_runs.specs.Expressions.{choice_code, guarded_code, first_kind, same}
use Rattle.lower_forms.specs.Forms.{IsMade}
use Rattle.lower_forms.proofs.Trees.{Works, AllWork}
use Rattle.lower_forms.proofs.Operations.{none, more, joined, Makes, transfers, gives, negates, signs, computes}
use Rattle.lower_forms.proofs.Operations.{derives, moves, differs}
use Rattle.lower_forms.proofs.Operations.{changes, steps, reaches, serving, jumps}

-- ---- pieces of code

pub record IsFine (c : Code) : Type 0 where
  pub makes : Makes c

pub fine : {c : Code} → Makes c → IsFine c
fine h = record { makes = h }

pub nothing : IsFine (λ r. r)
nothing = record { makes = λ r. none }

pub one : (i : TacInstr) → IsMade i → IsFine (λ r. i ∷ r)
one i h = record { makes = λ r. more h none }

pub both : {c d : Code} → IsFine c → IsFine d → IsFine (λ r. c (d r))
both {d = d} h i = record { makes = λ r. joined (h.makes (d r)) (i.makes r) }

pub choice : {c d f : Code} (l : ℕ) → IsFine c → IsFine d → IsFine f → IsFine (choice_code l c d f)
choice l h i j =
    both h (both i (both (one (instr.Jump (l + 1)) tt) (both (one (instr.Label l) tt)
    (both j (one (instr.Label (l + 1)) tt)))))

pub guarded : {c d : Code} (l : ℕ) → IsFine c → IsFine d → IsFine (guarded_code l c d)
guarded l h i = both h (both i (one (instr.Label l) tt))

-- ---- expressions

module _ (p : Typed) (signs_of : ℕ → Signature) (kinds : List TacKind) (g : Scene) where
  mutual
    pub operand : {later : Exs} {k : TacKind} {e : Ex} {t : ℕ} {m n : Mark} {c : Code} →
        IsOperand p signs_of kinds g later k e t m n c → Works e → IsFine c
    operand (code.operand_in_place h) w = nothing
    operand (code.operand_fresh h) w = value h w

    operand_in : {k : TacKind} {e : Ex} {to t : ℕ} {m n : Mark} {c : Code} →
        IsOperandIn p signs_of kinds g k e to t m n c → Works e → IsFine c
    operand_in (code.given_in_place h) w = nothing
    operand_in (code.given_there h) w = value h w

    pair : {j k : TacKind} {a b : Ex} {x y : ℕ} {m n : Mark} {c : Code} →
        IsPair p signs_of kinds g j a x k b y m n c → Works a → Works b → IsFine c
    pair (code.pair h i) v w = both (operand h v) (operand i w)

    pub value : {k : TacKind} {e : Ex} {to : ℕ} {m n : Mark} {c : Code} → IsValue p signs_of kinds g k e to m n c →
        Works e → IsFine c
    value (code.value_number {k = k} {v = v} {to = to} h) w = one (instr.Const to (kind.Int k) v) tt
    value (code.value_null {s = s} {v = v} {to = to} h) w = one (instr.Const to (kind.Cap s) v) tt
    value (code.value_variable {t = t} {to = to} e) w = fine (transfers to t)
    value (code.value_load {k = k} {t = t} {to = to} {q = q} is h) w = both (pointer h w) (one (instr.Load to t k q) tt)
    value (code.value_address h) w = place h w
    value (code.value_unplaced {to = to}) w = one (instr.Const to pointer_kind 0) tt
    value (code.value_narrowed {to = to} {w = n} h) w =
        both (place h w) (one (instr.Narrow to to (amount.Number n.owned) true) tt)
    value (code.value_kept h) w = value h w
    value (code.value_converted {j = j} {k = k} {t = t} {to = to} h) w =
        both (operand h w) (one (instr.Convert to t j k) tt)
    value (code.value_discarded {to = to} h) w = both (effect h w) (one (instr.Const to int_kind 0) tt)
    value (code.value_opposite {k = k} {t = t} {to = to} {n = n} h) w =
        both (operand h w) (fine (negates k to t n.temps))
    value (code.value_sign {k = k} {t = t} {to = to} {sign = sign} {n = n} h ints) w =
        both (operand_in h w.1) (fine (signs sign k to t n.temps w.0))
    value (code.value_whole {op = op} {i = i} {k = k} {x = x} {y = y} {to = to} {n = n} h right ints) w =
        both (pair h w.1 w.2) (fine (computes op i k to x y n.temps w.0))
    value (code.value_derived {op = op} {s = s} {right = right} {k = k} {x = x} {y = y} {to = to} {n = n} by h ints) w =
        both (pair h w.1 w.2) (fine (derives op s right k to x y n.temps))
    value (code.value_moved {size = size} {minus = minus} {k = k} {x = x} {y = y} {to = to} {n = n} h ints) w =
        both (pair h w.1 w.2) (fine (moves k (stride size minus) to x y n.temps))
    value (code.value_moved_right {size = size} {minus = minus} {k = k} {x = x} {y = y} {to = to} {n = n} h ints) w =
        both (pair h w.1 w.2) (fine (moves k (stride size minus) to y x n.temps))
    value (code.value_displaced {size = size} {v = v} {minus = minus} {t = t} {to = to} is h) w =
        both (operand_in h w.1) (one (instr.Offset to t (amount.Number (stride size minus * v % 2 ^ 64))) tt)
    value (code.value_displaced_right {size = size} {v = v} {minus = minus} {t = t} {to = to} is h) w =
        both (operand_in h w.2) (one (instr.Offset to t (amount.Number (stride size minus * v % 2 ^ 64))) tt)
    value (code.value_difference {size = size} {x = x} {y = y} {to = to} {n = n} h ints) w =
        both (pair h w.1 w.2) (fine (differs size to x y n.temps))
    value (code.value_compare {op = op} {k = k} {x = x} {y = y} {to = to} h) w =
        both (pair h w.0 w.1) (one (instr.Cmp op k to x y) tt)
    value (code.value_truth {to = to} {m = m} is h) w =
        both (condition h w) (fine (λ r. more tt (more tt (more tt (more tt (more tt none))))))
    value (code.value_choice {l = l} h i j) w = choice l.labels (condition h w.0) (value i w.1) (value j w.2)
    value (code.value_comma h i) w = both (effect h w.0) (value i w.1)
    value (code.value_assignment h) w = assignment h w
    value (code.value_call h) w = call h w

    pub effect : {e : Ex} {m n : Mark} {c : Code} → IsEffect p signs_of kinds g e m n c → Works e → IsFine c
    effect (code.effect_still is) w = nothing
    effect (code.effect_convert h) w = effect h w
    effect (code.effect_discard h) w = effect h w
    effect (code.effect_comma h i) w = both (effect h w.0) (effect i w.1)
    effect (code.effect_choice {l = l} h i j) w = choice l.labels (condition h w.0) (effect i w.1) (effect j w.2)
    effect (code.effect_both {l = l} h i) w = guarded l.labels (condition h w.0) (effect i w.1)
    effect (code.effect_either {l = l} h i) w = guarded l.labels (condition h w.0) (effect i w.1)
    effect (code.effect_deref h) w = effect h w
    effect (code.effect_member h) w = place_effect h w
    effect (code.effect_aggregate h) w = place_effect h w
    effect (code.effect_assignment h) w = assignment h w
    effect (code.effect_struct h) w = struct h w
    effect (code.effect_call h) w = call h w
    effect (code.effect_value h) w = value h w

    place_effect : {e : Ex} {m n : Mark} {c : Code} → IsPlaceEffect p signs_of kinds g e m n c → Works e → IsFine c
    place_effect (code.place_effect_still is) w = nothing
    place_effect (code.place_effect_deref h) w = effect h w
    place_effect (code.place_effect_member h) w = place_effect h w
    place_effect (code.place_effect_aggregate h) w = place_effect h w
    place_effect (code.place_effect_comma h i) w = both (effect h w.0) (place_effect i w.1)
    place_effect (code.place_effect_choice {l = l} h i j) w =
        choice l.labels (condition h w.0) (place_effect i w.1) (place_effect j w.2)
    place_effect (code.place_effect_struct h) w = struct h w

    pub condition : {k : TacKind} {e : Ex} {when : Bool} {label : ℕ} {m n : Mark} {c : Code} →
        IsCondition p signs_of kinds g k e when label m n c → Works e → IsFine c
    condition (code.condition_number {label = label} h) w = fine (jumps _ label)
    condition (code.condition_null {label = label}) w = fine (jumps _ label)
    condition (code.condition_opposite h) w = condition h w
    condition (code.condition_both h i) w = both (condition h w.0) (condition i w.1)
    condition (code.condition_either h i) w = both (condition h w.0) (condition i w.1)
    condition (code.condition_both_around {l = l} h i) w = guarded l.labels (condition h w.0) (condition i w.1)
    condition (code.condition_either_around {l = l} h i) w = guarded l.labels (condition h w.0) (condition i w.1)
    condition (code.condition_branch {t = t} {when = when} {label = label} h is) w =
        both (operand h w) (one (instr.Branch t when label) tt)

    pointer : {later : Exs} {e : Ex} {t : ℕ} {m n : Mark} {c : Code} → IsPointer p signs_of kinds g later e t m n c →
        Works e → IsFine c
    pointer (code.pointer_deref h) w = operand h w
    pointer (code.pointer_local e) w = nothing
    pointer (code.pointer_aggregate h) w = pointer h w
    pointer (code.pointer_fresh h) w = place h w

    place : {e : Ex} {to : ℕ} {m n : Mark} {c : Code} → IsPlace p signs_of kinds g e to m n c → Works e → IsFine c
    place (code.place_local {t = t} {to = to} e) w = fine (transfers to t)
    place (code.place_global {o = o} {to = to}) w = one (instr.Global to o false) tt
    place (code.place_literal {o = o} {to = to}) w = one (instr.Global to o true) tt
    place (code.place_function {f = f} {to = to}) w = one (instr.Function to f) tt
    place (code.place_deref h) w = value h w
    place (code.place_member_of {t = t} {to = to} {offset = offset} h) w =
        one (instr.Offset to t (amount.Number offset)) tt
    place (code.place_member {to = to} {offset = offset} h) w =
        both (place h w) (one (instr.Offset to to (amount.Number offset)) tt)
    place (code.place_aggregate h) w = place h w
    place (code.place_comma h i) w = both (effect h w.0) (place i w.1)
    place (code.place_choice {l = l} h i j) w = choice l.labels (condition h w.0) (place i w.1) (place j w.2)
    place (code.place_assigned {t = t} {to = to} h) w = both (struct h w) (fine (transfers to t))

    assignment : {k : TacKind} {e : Ex} {to : Option ℕ} {m n : Mark} {c : Code} →
        IsAssignment p signs_of kinds g k e to m n c → Works e → IsFine c
    assignment (code.assignment_variable {t = t} {to = to} e h) w = both (value h w.1) (fine (gives to t))
    assignment (code.assignment_object {k = k} {at = at} {t = t} {q = q} is h i) w =
        both (both (pointer h w.0) (operand i w.1)) (one (instr.Store at t k q) tt)
    assignment (code.assignment_object_value {k = k} {at = at} {t = t} {to = to} {q = q} is h own i) w =
        both (both (pointer h w.0) (value i w.1)) (both (one (instr.Store at t k q) tt) (fine (transfers to t)))
    assignment (code.assignment_changed_variable {op = op} {j = j} {k = k} {t = t} {y = y} {to = to} {n = n} e is h
        ints) w =
        both (operand h w.2) (both (fine (changes op j k t t y n.temps w.0)) (fine (gives to t)))
    assignment (code.assignment_changed_object {op = op} {j = j} {k = k} {at = at} {t = t} {y = y} {to = to} {s = s}
        {o = o} is fits h i own ints) w =
        both (both (pointer h w.1) (operand i w.2)) (both (one (instr.Load t at j s) tt)
        (both (fine (changes op j k t t y o.temps w.0)) (both (one (instr.Store at t j s) tt) (fine (gives to t)))))
    assignment (code.assignment_stepped_variable {op = op} {computed = computed} {j = j} {t = t} {to = to} {m = m} e is
        asks ints) w =
        both (fine (steps op j computed t t m.temps is)) (fine (gives to t))
    assignment (code.assignment_stepped_variable_old {op = op} {computed = computed} {j = j} {t = t} {v = v} {to = to}
        {n = n} e is own ints) w =
        both (one (instr.Copy v t) tt) (both (fine (steps op j computed t t n.temps is)) (fine (transfers to v)))
    assignment (code.assignment_stepped_object {op = op} {computed = computed} {j = j} {at = at} {t = t} {to = to}
        {s = s} {n = n} pos is asks h own ints) w =
        both (pointer h w.1) (both (one (instr.Load t at j s) tt)
        (both (fine (steps op j computed t t n.temps is)) (both (one (instr.Store at t j s) tt) (fine (gives to t)))))
    assignment (code.assignment_stepped_object_old {op = op} {computed = computed} {j = j} {at = at} {t = t} {to = to}
        {s = s} {n = n} pos is h own ints) w =
        both (pointer h w.1) (both (one (instr.Load t at j s) tt)
        (both (fine (steps op j computed n.temps t n.temps is))
        (both (one (instr.Store at n.temps j s) tt) (fine (transfers to t)))))

    struct : {e : Ex} {t : ℕ} {m n : Mark} {c : Code} → IsStructAssignment p signs_of kinds g e t m n c → Works e →
        IsFine c
    struct (code.struct_copy is h i) w = both (pointer h w.1) (copy i w.0 w.2)

    pub copy : {to : Target} {q : Pos} {bytes unit : ℕ} {e : Ex} {m n : Mark} {c : Code} →
        IsCopy p signs_of kinds g to q bytes unit e m n c → bytes ≤ size_limit → Works e → IsFine c
    copy (code.copy_choice {l = l} h i j) le w = choice l.labels (condition h w.0) (copy i le w.1) (copy j le w.2)
    copy (code.copy_comma h i) le w = both (effect h w.0) (copy i le w.1)
    copy (code.copy_aggregate h) le w = copy h le w
    copy (code.copy_plain {to = to} {s = s} {q = q} {bytes = bytes} {unit = unit} {t = t} {n = n} is h) le w =
        both (pointer h w) (both (fine (reaches to n)) (one (instr.CopyUnits t (target_temp to n) bytes unit q s) le))

    arguments : {es : Exs} {ks : List TacKind} {ts : List ℕ} {m n : Mark} {c : Code} →
        IsArguments p signs_of kinds g es ks ts m n c → AllWork es → IsFine c
    arguments code.arguments_none w = nothing
    arguments (code.arguments_one h i) w = both (operand h w.0) (arguments i w.1)

    call : {k : Option TacKind} {e : Ex} {to : Option ℕ} {m n : Mark} {c : Code} →
        IsCall p signs_of kinds g k e to m n c → Works e → IsFine c
    call (code.call_named {to = to} {f = f} {ts = ts} is lt same h) w =
        both (arguments h w.1) (one (instr.Call to f ts) tt)
    call (code.call_by_value {to = to} {v = v} {of = of} {ts = ts} {q = q} fits h i) w =
        both (both (operand h w.0) (arguments i w.1)) (one (instr.CallValue to v of ts q) tt)
    call (code.call_library {to = to} {service = service} {ks = ks} {ts = ts} is takes h) w =
        both (arguments h w) (fine (serving service to (first_kind ks) ts))
