-- All code that the relation makes of expressions does what they mean, by induction on how it is made.
use Rattle.std.specs.Prelude.{ℕ, not, Bool, true, false, List, [], Option}
use Rattle.std.specs.Prelude.{Some, None}
use Rattle.ck_base.specs.World.{World, GivesBytes}
use Rattle.ck_base.specs.declared.positions.Pos.{Pos}
use Rattle.c_tree.specs.declared.typed.Typed.{Typed}
use Rattle.obj_mem.specs.Values.{Value}
use Rattle.cheri_c_sem.specs.Modes.{Store}
use Rattle.cheri_c_sem.specs.Meaning.{At}
use Rattle.cheri_c_sem.specs.Operations.{Operations}
use Rattle.cheri_c_sem.specs.Steps.{Then}
use Rattle.cheri_c_sem.specs.Tree.{Sign, Ex, Exs, Nil, Cons}
use Rattle.cheri_c_sem.specs.Tree.{Unary}
use Rattle.tac_ir.specs.Effects.{kind_of, no_position}
use Rattle.tac_ir.specs.Meaning.{Running}
use Rattle.tac_ir.specs.declared.code.Tac.{Tac}
use Rattle.tac_ir.specs.declared.code.TacKind.{TacKind}
use Rattle.tac_ir.specs.declared.code.TacKind.TheVariants as kind
use Rattle.lower_runs.specs.States.{Scene, IsScene, IsPlaced}
use Rattle.lower_runs.specs.Operating as operating
use Rattle.lower_runs.specs.Operating.{Code, AreInts, long, give, transfer, moved_temps, address_temps, changed_temps}
use Rattle.lower_runs.specs.Operating.{signed_temps, stepped_temps, stride}
use Rattle.lower_runs.specs.Expressions.{Mark, Signature, Target, Reaches, more, labelled, int_kind, pointer_kind}
use Rattle.lower_runs.specs.Expressions.{IsOperand, IsOperandIn, IsPair, IsValue, IsEffect, IsPlaceEffect}
use Rattle.lower_runs.specs.Expressions.{IsCondition, IsPointer, IsPlace, IsAssignment, IsStructAssignment, IsCopy}
use Rattle.lower_runs.specs.Expressions.{IsArguments, IsCall, operand_in_place, operand_fresh, given_in_place}
use Rattle.lower_runs.specs.Expressions.{given_there, pair, value_number, value_null, value_variable, value_load}
use Rattle.lower_runs.specs.Expressions.{value_address, value_unplaced, value_narrowed, value_kept, value_converted}
use Rattle.lower_runs.specs.Expressions.{value_discarded}
use Rattle.lower_runs.specs.Expressions.{value_opposite, value_sign, value_whole, value_derived, value_moved}
use Rattle.lower_runs.specs.Expressions.{value_moved_right, value_displaced, value_displaced_right, value_difference}
use Rattle.lower_runs.specs.Expressions.{value_compare, value_truth, value_choice, value_comma, value_assignment}
use Rattle.lower_runs.specs.Expressions.{value_call, effect_still, effect_convert, effect_discard, effect_comma}
use Rattle.lower_runs.specs.Expressions.{effect_choice, effect_both, effect_either, effect_deref, effect_member}
use Rattle.lower_runs.specs.Expressions.{effect_aggregate, effect_assignment, effect_struct, effect_call, effect_value}
use Rattle.lower_runs.specs.Expressions.{place_effect_still, place_effect_deref, place_effect_member}
use Rattle.lower_runs.specs.Expressions.{place_effect_aggregate, place_effect_comma, place_effect_choice}
use Rattle.lower_runs.specs.Expressions.{place_effect_struct, condition_number, condition_null, condition_opposite}
use Rattle.lower_runs.specs.Expressions.{condition_both, condition_either, condition_both_around}
use Rattle.lower_runs.specs.Expressions.{condition_either_around, condition_branch, pointer_deref, pointer_local}
use Rattle.lower_runs.specs.Expressions.{pointer_aggregate, pointer_fresh, place_local, place_global, place_literal}
use Rattle.lower_runs.specs.Expressions.{place_function, place_deref, place_member_of, place_member, place_aggregate}
use Rattle.lower_runs.specs.Expressions.{place_comma, place_choice, place_assigned, assignment_variable}
use Rattle.lower_runs.specs.Expressions.{assignment_object, assignment_object_value, assignment_changed_variable}
use Rattle.lower_runs.specs.Expressions.{assignment_changed_object, assignment_stepped_variable}
use Rattle.lower_runs.specs.Expressions.{assignment_stepped_variable_old, assignment_stepped_object}
use Rattle.lower_runs.specs.Expressions.{assignment_stepped_object_old, struct_copy, copy_choice, copy_comma}
use Rattle.lower_runs.specs.Expressions.{copy_aggregate, copy_plain, arguments_none, arguments_one, call_named}
use Rattle.lower_runs.specs.Expressions.{call_by_value, call_library}
use Rattle.lower_runs.specs.Simulation.{OperandRuns, OperandInRuns, PairRuns, ValueRuns, EffectRuns, PlaceEffectRuns}
use Rattle.lower_runs.specs.Simulation.{ConditionRuns, PointerRuns, PlaceRuns, AssignmentRuns, CopyRuns, kinds}
use Rattle.lower_runs.specs.Calling.{CallsRun, ArgumentsRun, CallRuns, IsAsked}
use Rattle.lower_runs.proofs.Operands.{operand_in_place as operand_in_place_law, operand_fresh as operand_fresh_law}
use Rattle.lower_runs.proofs.Operands.{operand_in_place_of, operand_there, pair as pair_law}
use Rattle.lower_runs.proofs.Values.{unplaced_value, number_value, null_value, variable_value, kept_value}
use Rattle.lower_runs.proofs.Values.{converted_value}
use Rattle.lower_runs.proofs.Values.{discarded_value, opposite_value, sign_value, whole_value, compare_value}
use Rattle.lower_runs.proofs.Values.{truth_value, comma_value}
use Rattle.lower_runs.proofs.Conditions.{chosen_value, opposite_condition, both_condition, either_condition}
use Rattle.lower_runs.proofs.Conditions.{both_around, either_around, branch_condition, number_condition, null_condition}
use Rattle.lower_runs.proofs.Effects.{still_effect, convert_effect, discard_effect, comma_effect, choice_effect}
use Rattle.lower_runs.proofs.Effects.{both_effect, either_effect, deref_effect, member_effect, aggregate_effect}
use Rattle.lower_runs.proofs.Effects.{value_effect, still_place_effect, deref_place_effect, member_place_effect}
use Rattle.lower_runs.proofs.Effects.{aggregate_place_effect, comma_place_effect, choice_place_effect}
use Rattle.lower_runs.proofs.Places.{load_value, address_value, narrowed_value, deref_pointer, local_pointer}
use Rattle.lower_runs.proofs.Places.{aggregate_pointer, fresh_pointer, local_place, global_place, literal_place}
use Rattle.lower_runs.proofs.Places.{function_place, deref_place, member_of_place, member_place, aggregate_place}
use Rattle.lower_runs.proofs.Places.{comma_place, choice_place}
use Rattle.lower_runs.proofs.Assignments.{variable_assignment, object_assignment, object_value_assignment}
use Rattle.lower_runs.proofs.Structs.{struct_copy as struct_copy_law, plain_copy, aggregate_copy, comma_copy}
use Rattle.lower_runs.proofs.Structs.{choice_copy, effect_of_copy, place_of_pointer}
use Rattle.lower_runs.proofs.Capabilities.{derived_value, sign_capability, moved_value, moved_right, displaced_value}
use Rattle.lower_runs.proofs.Capabilities.{displaced_right, difference_value}
use Rattle.lower_runs.proofs.Compounds.{changed_variable, changed_object, stepped_variable, stepped_variable_old}
use Rattle.lower_runs.proofs.Compounds.{stepped_object, stepped_object_old}
use Rattle.lower_runs.proofs.Services.{library_call}
use Rattle.lower_runs.proofs.Calls.{no_arguments, one_argument, named_call, value_call as value_call_law}

module _ (ops : Operations Store) (placed : IsPlaced ops) (world : World) (all : Tac) (p : Typed)
    (objects : ℕ → List ℕ) (running : Running) (call : ℕ → List Value → Then Store Value) (signs : ℕ → Signature)
    (g : Scene) (scene : IsScene g) where
  abbrev Operand_runs : (i0 : Exs) → (i1 : TacKind) → (i2 : Ex) → (i3 : ℕ) → (i4 : Mark) → (i5 : Mark) → (i6 : Code) →
      Type 0
  Operand_runs = OperandRuns ops world all p objects running call g

  abbrev Operand_in_runs : (i0 : TacKind) → (i1 : Ex) → (i2 : ℕ) → (i3 : ℕ) → (i4 : Mark) → (i5 : Mark) → (i6 : Code) →
      Type 0
  Operand_in_runs = OperandInRuns ops world all p objects running call g

  abbrev Pair_runs : (i0 : TacKind) → (i1 : Ex) → (i2 : ℕ) → (i3 : TacKind) → (i4 : Ex) → (i5 : ℕ) → (i6 : Mark) →
      (i7 : Mark) → (i8 : Code) → Type 0
  Pair_runs = PairRuns ops world all p objects running call g

  abbrev Value_runs : (i0 : TacKind) → (i1 : Ex) → (i2 : ℕ) → (i3 : Mark) → (i4 : Mark) → (i5 : Code) → Type 0
  Value_runs = ValueRuns ops world all p objects running call g

  abbrev Effect_runs : (i0 : Ex) → (i1 : Mark) → (i2 : Mark) → (i3 : Code) → Type 0
  Effect_runs = EffectRuns ops world all p objects running call g

  abbrev Place_effect_runs : (i0 : Ex) → (i1 : Mark) → (i2 : Mark) → (i3 : Code) → Type 0
  Place_effect_runs = PlaceEffectRuns ops world all p objects running call g

  abbrev Condition_runs : (i0 : TacKind) → (i1 : Ex) → (i2 : Bool) → (i3 : ℕ) → (i4 : Mark) → (i5 : Mark) →
      (i6 : Code) → Type 0
  Condition_runs = ConditionRuns ops world all p objects running call g

  abbrev Pointer_runs : (i0 : Exs) → (i1 : Ex) → (i2 : ℕ) → (i3 : Mark) → (i4 : Mark) → (i5 : Code) → Type 0
  Pointer_runs = PointerRuns ops world all p objects running call g

  abbrev Place_runs : (i0 : Ex) → (i1 : ℕ) → (i2 : Mark) → (i3 : Mark) → (i4 : Code) → Type 0
  Place_runs = PlaceRuns ops world all p objects running call g

  abbrev Assignment_runs : (i0 : TacKind) → (i1 : Ex) → (i2 : Option ℕ) → (i3 : Mark) → (i4 : Mark) → (i5 : Code) →
      Type 0
  Assignment_runs = AssignmentRuns ops world all p objects running call g

  abbrev Struct_runs : (i0 : Ex) → (i1 : ℕ) → (i2 : Mark) → (i3 : Mark) → (i4 : Code) → Type 0
  Struct_runs = PointerRuns ops world all p objects running call g Nil

  abbrev Copy_runs : (i0 : Target) → (i1 : Pos) → (i2 : ℕ) → (i3 : ℕ) → (i4 : Ex) → (i5 : Mark) → (i6 : Mark) →
      (i7 : Code) → Type 0
  Copy_runs = CopyRuns ops world all p objects running call g

  abbrev Arguments_run : (i0 : Exs) → (i1 : List TacKind) → (i2 : List ℕ) → (i3 : Mark) → (i4 : Mark) → (i5 : Code) →
      Type 0
  Arguments_run = ArgumentsRun ops world all p objects call signs running g

  abbrev Call_runs : (i0 : Option TacKind) → (i1 : Ex) → (i2 : Option ℕ) → (i3 : Mark) → (i4 : Mark) → (i5 : Code) →
      Type 0
  Call_runs = CallRuns ops world all p objects call signs running g

  module _ (bytes : GivesBytes world) (calls : CallsRun ops world all p objects call signs g.limit) where
    signed_ok : (k : TacKind) (e : Ex) (t to : ℕ) (q : Pos) (sign : Sign) (m n : Mark) (c : Code) →
        Operand_in_runs k e to t m n c →
        AreInts (kinds ops world all p objects running call g) (operating.signed sign k to t n.temps [])
        → Value_runs k (Unary q sign (kind_of k) e) to m (more (signed_temps sign k) n)
        (λ r. c (operating.signed sign k to t n.temps r))
    signed_ok (kind.Int i) e x to q sign m n c h ints =
        sign_value ops placed world all p objects running call g scene sign i e q x to m n c h ints
    signed_ok (kind.Cap s) e x to q sign m n c h ints =
        sign_capability ops placed world all p objects running call g scene s e x to q sign m n c h ints

    value_of_assignment : (k : TacKind) (e : Ex) (to : ℕ) (m n : Mark) (c : Code) →
        Assignment_runs k e (Some to) m n c → Value_runs k e to m n c
    value_of_assignment k e to m n c h =
        record { piece = h.piece; runs = λ s ts l i room target ag go. h.runs s ts l i room target ag go }

    effect_of_assignment : (k : TacKind) (e : Ex) (m n : Mark) (c : Code) → Assignment_runs k e None m n c →
        Effect_runs e m n c
    effect_of_assignment k e m n c h =
        record { piece = h.piece; runs = λ s ts l i room ag go. h.runs s ts l i room tt ag go }

    value_of_call : (k : TacKind) (e : Ex) (to : ℕ) (m n : Mark) (c : Code) → Call_runs (Some k) e (Some to) m n c →
        Value_runs k e to m n c
    value_of_call k e to m n c h =
        record { piece = h.piece; runs = λ s ts l i room target ag go. h.runs s ts l i room target ag go }

    effect_of_call : (k : Option TacKind) (e : Ex) (m n : Mark) (c : Code) → Call_runs k e None m n c →
        Effect_runs e m n c
    effect_of_call k e m n c h = record { piece = h.piece; runs = λ s ts l i room ag go. h.runs s ts l i room tt ag go }

    -- a struct assignment is a copy
    effect_of_struct : (e : Ex) (t : ℕ) (m n : Mark) (c : Code) →
        IsStructAssignment p signs (kinds ops world all p objects running call g) g e t m n c →
        Struct_runs e t m n c → Effect_runs e m n c
    effect_of_struct e t m n c (struct_copy {bytes = bytes} {unit = unit} {t = at} {a = a} {b = b} {q = q} {l = l}
        {n = o} {c = d} {d = f} h0 h1 h2) h =
        effect_of_copy ops placed world all p objects running call g scene q bytes unit at a b l o (λ r. d (f r)) h

    place_effect_of_struct : (e : Ex) (at : ℕ) (m n : Mark) (c : Code) → Struct_runs e at m n c →
        Place_effect_runs e m n c
    place_effect_of_struct e at m n c h =
        record {
          piece = h.piece;
          runs = λ s ts l i room ag go. h.runs s ts l i room ag (λ q v u us a. go (At q v) u us a.done);
        }

    mutual
      pub operand_ok : (i0 : Exs) (i1 : TacKind) (i2 : Ex) (i3 : ℕ) (i4 : Mark) (i5 : Mark) (i6 : Code) →
          IsOperand p signs (kinds ops world all p objects running call g) g i0 i1 i2 i3 i4 i5 i6 →
          Operand_runs i0 i1 i2 i3 i4 i5 i6
      operand_ok i0 i1 i2 i3 i4 i5 i6 (operand_in_place {later = later} {k = k} {e = e} {t = t} {m = m} h0) =
          operand_in_place_law ops placed world all p objects running call g scene later k e t m h0
      operand_ok i0 i1 i2 i3 i4 i5 i6 (operand_fresh {later = later} {k = k} {e = e} {m = m} {n = n} {c = c} h0) =
          operand_fresh_law ops placed world all p objects running call g scene later k e m n c
          (value_ok k e m.temps (more 1 m) n c h0)

      pub given_ok : (i0 : TacKind) (i1 : Ex) (i2 : ℕ) (i3 : ℕ) (i4 : Mark) (i5 : Mark) (i6 : Code) →
          IsOperandIn p signs (kinds ops world all p objects running call g) g i0 i1 i2 i3 i4 i5 i6 →
          Operand_in_runs i0 i1 i2 i3 i4 i5 i6
      given_ok i0 i1 i2 i3 i4 i5 i6 (given_in_place {k = k} {e = e} {to = to} {t = t} {m = m} h0) =
          operand_in_place_of ops placed world all p objects running call g scene k e to t m h0
      given_ok i0 i1 i2 i3 i4 i5 i6 (given_there {k = k} {e = e} {to = to} {m = m} {n = n} {c = c} h0) =
          operand_there ops placed world all p objects running call g scene k e to m n c (value_ok k e to m n c h0)

      pub pair_ok : (i0 : TacKind) (i1 : Ex) (i2 : ℕ) (i3 : TacKind) (i4 : Ex) (i5 : ℕ) (i6 : Mark) (i7 : Mark)
          (i8 : Code) → IsPair p signs (kinds ops world all p objects running call g) g i0 i1 i2 i3 i4 i5 i6 i7 i8 →
          Pair_runs i0 i1 i2 i3 i4 i5 i6 i7 i8
      pair_ok i0 i1 i2 i3 i4 i5 i6 i7 i8 (pair {j = j} {k = k} {a = a} {b = b} {x = x} {y = y} {l = l} {m = m} {n = n}
          {c = c} {d = d} h0 h1) = pair_law ops placed world all p objects running call g scene j k a b x y l m n c d
          (operand_ok (Cons b Nil) j a x l m c h0) (operand_ok Nil k b y m n d h1)

      pub value_ok : (i0 : TacKind) (i1 : Ex) (i2 : ℕ) (i3 : Mark) (i4 : Mark) (i5 : Code) →
          IsValue p signs (kinds ops world all p objects running call g) g i0 i1 i2 i3 i4 i5 →
          Value_runs i0 i1 i2 i3 i4 i5
      value_ok i0 i1 i2 i3 i4 i5 (value_number {k = k} {v = v} {to = to} {m = m} h0) =
          number_value ops placed world all p objects running call g scene k v to m h0
      value_ok i0 i1 i2 i3 i4 i5 (value_null {s = s} {v = v} {to = to} {m = m} h0) =
          null_value ops placed world all p objects running call g scene s v to m h0
      value_ok i0 i1 i2 i3 i4 i5 (value_variable {x = x} {t = t} {to = to} {k = k} {q = q} {m = m} h0) =
          variable_value ops placed world all p objects running call g scene x t to k q m h0
      value_ok i0 i1 i2 i3 i4 i5 (value_load {k = k} {e = e} {t = t} {to = to} {q = q} {m = m} {n = n} {c = c} h0 h1) =
          load_value ops placed world all p objects running call g scene k e t to q m n c h0
          (pointer_ok Nil e t m n c h1)
      value_ok i0 i1 i2 i3 i4 i5 (value_address {e = e} {to = to} {q = q} {m = m} {n = n} {c = c} h0) =
          address_value ops placed world all p objects running call g scene e to q m n c (place_ok e to m n c h0)
      value_ok i0 i1 i2 i3 i4 i5 (value_unplaced {x = x} {to = to} {q = q} {s = s} {m = m}) =
          unplaced_value ops placed world all p objects running call g scene x to q s m
      value_ok i0 i1 i2 i3 i4 i5 (value_narrowed {e = e} {to = to} {q = q} {w = w} {m = m} {n = n} {c = c} h0) =
          narrowed_value ops placed world all p objects running call g scene e to q w m n c (place_ok e to m n c h0)
      value_ok i0 i1 i2 i3 i4 i5 (value_kept {k = k} {e = e} {to = to} {q = q} {plain = plain} {m = m} {n = n}
          {c = c} h0) = kept_value ops placed world all p objects running call g scene k e q plain to m n c
          (value_ok k e to m n c h0)
      value_ok i0 i1 i2 i3 i4 i5 (value_converted {j = j} {k = k} {e = e} {t = t} {to = to} {q = q} {plain = plain}
          {m = m} {n = n} {c = c} h0) =
          converted_value ops placed world all p objects running call g scene j k e q plain t to m n c
          (operand_ok Nil j e t m n c h0)
      value_ok i0 i1 i2 i3 i4 i5 (value_discarded {e = e} {to = to} {m = m} {n = n} {c = c} h0) =
          discarded_value ops placed world all p objects running call g scene e to m n c (effect_ok e m n c h0)
      value_ok i0 i1 i2 i3 i4 i5 (value_opposite {k = k} {e = e} {t = t} {to = to} {q = q} {m = m} {n = n} {c = c} h0) =
          opposite_value ops placed world all p objects running call g scene k e q t to m n c
          (operand_ok Nil k e t m n c h0)
      value_ok i0 i1 i2 i3 i4 i5 (value_sign {k = k} {e = e} {t = t} {to = to} {q = q} {sign = sign} {m = m} {n = n}
          {c = c} h0 h1) = signed_ok k e t to q sign m n c (given_ok k e to t m n c h0) h1
      value_ok i0 i1 i2 i3 i4 i5 (value_whole {op = op} {i = i} {k = k} {a = a} {b = b} {x = x} {y = y} {to = to}
          {q = q} {m = m} {n = n} {c = c} h0 h1 h2) =
          whole_value ops placed world all p objects running call g scene op i k a b q x y to m n c
          (pair_ok (kind.Int i) a x k b y m n c h0) h1 h2
      value_ok i0 i1 i2 i3 i4 i5 (value_derived {op = op} {s = s} {right = right} {plain = plain} {k = k} {a = a}
          {b = b} {x = x} {y = y} {to = to} {q = q} {m = m} {n = n} {c = c} h0 h1 h2) =
          derived_value ops placed world all p objects running call g scene op s right plain k a b q x y to m n c h0
          (pair_ok (kind.Cap s) a x k b y m n c h1) h2
      value_ok i0 i1 i2 i3 i4 i5 (value_moved {size = size} {minus = minus} {k = k} {a = a} {b = b} {x = x} {y = y}
          {to = to} {q = q} {m = m} {n = n} {c = c} h0 h1) =
          moved_value ops placed world all p objects running call g scene size minus k a b x y to q m n c
          (pair_ok pointer_kind a x k b y m n c h0) h1
      value_ok i0 i1 i2 i3 i4 i5 (value_moved_right {size = size} {minus = minus} {k = k} {a = a} {b = b} {x = x}
          {y = y} {to = to} {q = q} {m = m} {n = n} {c = c} h0 h1) =
          moved_right ops placed world all p objects running call g scene size minus k a b x y to q m n c
          (pair_ok k a x pointer_kind b y m n c h0) h1
      value_ok i0 i1 i2 i3 i4 i5 (value_displaced {size = size} {v = v} {minus = minus} {i = i} {a = a} {b = b} {t = t}
          {to = to} {q = q} {m = m} {n = n} {c = c} h0 h1) =
          displaced_value ops placed world all p objects running call g scene size v minus i a b t to q m n c h0
          (given_ok pointer_kind a to t m n c h1)
      value_ok i0 i1 i2 i3 i4 i5 (value_displaced_right {size = size} {v = v} {minus = minus} {i = i} {a = a} {b = b}
          {t = t} {to = to} {q = q} {m = m} {n = n} {c = c} h0 h1) =
          displaced_right ops placed world all p objects running call g scene size v minus i a b t to q m n c h0
          (given_ok pointer_kind b to t m n c h1)
      value_ok i0 i1 i2 i3 i4 i5 (value_difference {size = size} {a = a} {b = b} {x = x} {y = y} {to = to} {q = q}
          {m = m} {n = n} {c = c} h0 h1) =
          difference_value ops placed world all p objects running call g scene size a b x y to q m n c
          (pair_ok pointer_kind a x pointer_kind b y m n c h0) h1
      value_ok i0 i1 i2 i3 i4 i5 (value_compare {op = op} {k = k} {a = a} {b = b} {x = x} {y = y} {to = to} {q = q}
          {m = m} {n = n} {c = c} h0) =
          compare_value ops placed world all p objects running call g scene op k a b q x y to m n c
          (pair_ok k a x k b y m n c h0)
      value_ok i0 i1 i2 i3 i4 i5 (value_truth {e = e} {to = to} {m = m} {n = n} {c = c} h0 h1) =
          truth_value ops placed world all p objects running call g scene no_position e to m n c h0
          (condition_ok int_kind e false m.labels (labelled 2 m) n c h1)
      value_ok i0 i1 i2 i3 i4 i5 (value_choice {j = j} {k = k} {e = e} {a = a} {b = b} {to = to} {q = q} {l = l} {m = m}
          {n = n} {o = o} {c = c} {d = d} {f = f} h0 h1 h2) =
          chosen_value ops placed world all p objects running call g scene q j k e a b to l m n o c d f
          (condition_ok j e false l.labels (labelled 2 l) m c h0) (value_ok k a to m n d h1) (value_ok k b to n o f h2)
      value_ok i0 i1 i2 i3 i4 i5 (value_comma {k = k} {a = a} {b = b} {to = to} {l = l} {m = m} {n = n} {c = c}
          {d = d} h0 h1) = comma_value ops placed world all p objects running call g scene k a b to l m n c d
          (effect_ok a l m c h0) (value_ok k b to m n d h1)
      value_ok i0 i1 i2 i3 i4 i5 (value_assignment {k = k} {e = e} {to = to} {m = m} {n = n} {c = c} h0) =
          value_of_assignment k e to m n c (assignment_ok k e (Some to) m n c h0)
      value_ok i0 i1 i2 i3 i4 i5 (value_call {k = k} {e = e} {to = to} {m = m} {n = n} {c = c} h0) =
          value_of_call k e to m n c (call_ok (Some k) e (Some to) m n c tt h0)

      pub effect_ok : (i0 : Ex) (i1 : Mark) (i2 : Mark) (i3 : Code) →
          IsEffect p signs (kinds ops world all p objects running call g) g i0 i1 i2 i3 → Effect_runs i0 i1 i2 i3
      effect_ok i0 i1 i2 i3 (effect_still {e = e} {m = m} h0) =
          still_effect ops placed world all p objects running call g scene e m h0
      effect_ok i0 i1 i2 i3 (effect_convert {j = j} {k = k} {e = e} {q = q} {plain = plain} {m = m} {n = n}
          {c = c} h0) = convert_effect ops placed world all p objects running call g scene e q j k plain m n c
          (effect_ok e m n c h0)
      effect_ok i0 i1 i2 i3 (effect_discard {e = e} {m = m} {n = n} {c = c} h0) =
          discard_effect ops placed world all p objects running call g scene e m n c (effect_ok e m n c h0)
      effect_ok i0 i1 i2 i3 (effect_comma {a = a} {b = b} {l = l} {m = m} {n = n} {c = c} {d = d} h0 h1) =
          comma_effect ops placed world all p objects running call g scene a b l m n c d (effect_ok a l m c h0)
          (effect_ok b m n d h1)
      effect_ok i0 i1 i2 i3 (effect_choice {j = j} {e = e} {a = a} {b = b} {q = q} {l = l} {m = m} {n = n} {o = o}
          {c = c} {d = d} {f = f} h0 h1 h2) =
          choice_effect ops placed world all p objects running call g scene q j e a b l m n o c d f
          (condition_ok j e false l.labels (labelled 2 l) m c h0) (effect_ok a m n d h1) (effect_ok b n o f h2)
      effect_ok i0 i1 i2 i3 (effect_both {j = j} {k = k} {a = a} {b = b} {q = q} {l = l} {m = m} {n = n} {c = c}
          {d = d} h0 h1) = both_effect ops placed world all p objects running call g scene q j k a b l m n c d
          (condition_ok j a false l.labels (labelled 1 l) m c h0) (effect_ok b m n d h1)
      effect_ok i0 i1 i2 i3 (effect_either {j = j} {k = k} {a = a} {b = b} {q = q} {l = l} {m = m} {n = n} {c = c}
          {d = d} h0 h1) = either_effect ops placed world all p objects running call g scene q j k a b l m n c d
          (condition_ok j a true l.labels (labelled 1 l) m c h0) (effect_ok b m n d h1)
      effect_ok i0 i1 i2 i3 (effect_deref {e = e} {q = q} {m = m} {n = n} {c = c} h0) =
          deref_effect ops placed world all p objects running call g scene e q m n c (effect_ok e m n c h0)
      effect_ok i0 i1 i2 i3 (effect_member {e = e} {q = q} {offset = offset} {m = m} {n = n} {c = c} h0) =
          member_effect ops placed world all p objects running call g scene e q offset m n c
          (place_effect_ok e m n c h0)
      effect_ok i0 i1 i2 i3 (effect_aggregate {e = e} {m = m} {n = n} {c = c} h0) =
          aggregate_effect ops placed world all p objects running call g scene e m n c (place_effect_ok e m n c h0)
      effect_ok i0 i1 i2 i3 (effect_assignment {k = k} {e = e} {m = m} {n = n} {c = c} h0) =
          effect_of_assignment k e m n c (assignment_ok k e None m n c h0)
      effect_ok i0 i1 i2 i3 (effect_struct {e = e} {t = t} {m = m} {n = n} {c = c} h0) =
          effect_of_struct e t m n c h0 (struct_ok e t m n c h0)
      effect_ok i0 i1 i2 i3 (effect_call {k = k} {e = e} {m = m} {n = n} {c = c} h0) =
          effect_of_call k e m n c (call_ok k e None m n c tt h0)
      effect_ok i0 i1 i2 i3 (effect_value {k = k} {e = e} {m = m} {n = n} {c = c} h0) =
          value_effect ops placed world all p objects running call g scene k e m n c
          (value_ok k e m.temps (more 1 m) n c h0)

      pub place_effect_ok : (i0 : Ex) (i1 : Mark) (i2 : Mark) (i3 : Code) →
          IsPlaceEffect p signs (kinds ops world all p objects running call g) g i0 i1 i2 i3 →
          Place_effect_runs i0 i1 i2 i3
      place_effect_ok i0 i1 i2 i3 (place_effect_still {e = e} {m = m} h0) =
          still_place_effect ops placed world all p objects running call g scene e m h0
      place_effect_ok i0 i1 i2 i3 (place_effect_deref {e = e} {q = q} {m = m} {n = n} {c = c} h0) =
          deref_place_effect ops placed world all p objects running call g scene e q m n c (effect_ok e m n c h0)
      place_effect_ok i0 i1 i2 i3 (place_effect_member {e = e} {q = q} {offset = offset} {m = m} {n = n} {c = c} h0) =
          member_place_effect ops placed world all p objects running call g scene e q offset m n c
          (place_effect_ok e m n c h0)
      place_effect_ok i0 i1 i2 i3 (place_effect_aggregate {e = e} {m = m} {n = n} {c = c} h0) =
          aggregate_place_effect ops placed world all p objects running call g scene e m n c
          (place_effect_ok e m n c h0)
      place_effect_ok i0 i1 i2 i3 (place_effect_comma {a = a} {b = b} {l = l} {m = m} {n = n} {c = c} {d = d} h0 h1) =
          comma_place_effect ops placed world all p objects running call g scene a b l m n c d (effect_ok a l m c h0)
          (place_effect_ok b m n d h1)
      place_effect_ok i0 i1 i2 i3 (place_effect_choice {j = j} {e = e} {a = a} {b = b} {q = q} {l = l} {m = m} {n = n}
          {o = o} {c = c} {d = d} {f = f} h0 h1 h2) =
          choice_place_effect ops placed world all p objects running call g scene q j e a b l m n o c d f
          (condition_ok j e false l.labels (labelled 2 l) m c h0) (place_effect_ok a m n d h1)
          (place_effect_ok b n o f h2)
      place_effect_ok i0 i1 i2 i3 (place_effect_struct {e = e} {t = t} {m = m} {n = n} {c = c} h0) =
          place_effect_of_struct e t m n c (struct_ok e t m n c h0)

      pub condition_ok : (i0 : TacKind) (i1 : Ex) (i2 : Bool) (i3 : ℕ) (i4 : Mark) (i5 : Mark) (i6 : Code) →
          IsCondition p signs (kinds ops world all p objects running call g) g i0 i1 i2 i3 i4 i5 i6 →
          Condition_runs i0 i1 i2 i3 i4 i5 i6
      condition_ok i0 i1 i2 i3 i4 i5 i6 (condition_number {k = k} {v = v} {label = label} {when = when} {m = m} h0) =
          number_condition ops placed world all p objects running call g scene k v label when m h0
      condition_ok i0 i1 i2 i3 i4 i5 i6 (condition_null {s = s} {v = v} {label = label} {when = when} {m = m}) =
          null_condition ops placed world all p objects running call g scene s v label when m
      condition_ok i0 i1 i2 i3 i4 i5 i6 (condition_opposite {k = k} {e = e} {q = q} {when = when} {label = label}
          {m = m} {n = n} {c = c} h0) =
          opposite_condition ops placed world all p objects running call g scene q k e when label m n c
          (condition_ok k e (not when) label m n c h0)
      condition_ok i0 i1 i2 i3 i4 i5 i6 (condition_both {j = j} {k = k} {a = a} {b = b} {q = q} {label = label} {l = l}
          {m = m} {n = n} {c = c} {d = d} h0 h1) =
          both_condition ops placed world all p objects running call g scene q j k a b label l m n c d
          (condition_ok j a false label l m c h0) (condition_ok k b false label m n d h1)
      condition_ok i0 i1 i2 i3 i4 i5 i6 (condition_either {j = j} {k = k} {a = a} {b = b} {q = q} {label = label}
          {l = l} {m = m} {n = n} {c = c} {d = d} h0 h1) =
          either_condition ops placed world all p objects running call g scene q j k a b label l m n c d
          (condition_ok j a true label l m c h0) (condition_ok k b true label m n d h1)
      condition_ok i0 i1 i2 i3 i4 i5 i6 (condition_both_around {j = j} {k = k} {a = a} {b = b} {q = q} {label = label}
          {l = l} {m = m} {n = n} {c = c} {d = d} h0 h1) =
          both_around ops placed world all p objects running call g scene q j k a b label l m n c d
          (condition_ok j a false l.labels (labelled 1 l) m c h0) (condition_ok k b true label m n d h1)
      condition_ok i0 i1 i2 i3 i4 i5 i6 (condition_either_around {j = j} {k = k} {a = a} {b = b} {q = q} {label = label}
          {l = l} {m = m} {n = n} {c = c} {d = d} h0 h1) =
          either_around ops placed world all p objects running call g scene q j k a b label l m n c d
          (condition_ok j a true l.labels (labelled 1 l) m c h0) (condition_ok k b false label m n d h1)
      condition_ok i0 i1 i2 i3 i4 i5 i6 (condition_branch {k = k} {e = e} {t = t} {when = when} {label = label} {m = m}
          {n = n} {c = c} h0 h1) = branch_condition ops placed world all p objects running call g scene k e t when
          label m n c (operand_ok Nil k e t m n c h0) h1

      pub pointer_ok : (i0 : Exs) (i1 : Ex) (i2 : ℕ) (i3 : Mark) (i4 : Mark) (i5 : Code) →
          IsPointer p signs (kinds ops world all p objects running call g) g i0 i1 i2 i3 i4 i5 →
          Pointer_runs i0 i1 i2 i3 i4 i5
      pointer_ok i0 i1 i2 i3 i4 i5 (pointer_deref {later = later} {e = e} {t = t} {q = q} {m = m} {n = n} {c = c} h0) =
          deref_pointer ops placed world all p objects running call g scene later e t q m n c
          (operand_ok later pointer_kind e t m n c h0)
      pointer_ok i0 i1 i2 i3 i4 i5 (pointer_local {later = later} {o = o} {t = t} {q = q} {m = m} h0) =
          local_pointer ops placed world all p objects running call g scene later o t q m h0
      pointer_ok i0 i1 i2 i3 i4 i5 (pointer_aggregate {later = later} {e = e} {t = t} {m = m} {n = n} {c = c} h0) =
          aggregate_pointer ops placed world all p objects running call g scene later e t m n c
          (pointer_ok later e t m n c h0)
      pointer_ok i0 i1 i2 i3 i4 i5 (pointer_fresh {later = later} {e = e} {m = m} {n = n} {c = c} h0) =
          fresh_pointer ops placed world all p objects running call g scene later e m n c
          (place_ok e m.temps (more 1 m) n c h0)

      pub place_ok : (i0 : Ex) (i1 : ℕ) (i2 : Mark) (i3 : Mark) (i4 : Code) →
          IsPlace p signs (kinds ops world all p objects running call g) g i0 i1 i2 i3 i4 → Place_runs i0 i1 i2 i3 i4
      place_ok i0 i1 i2 i3 i4 (place_local {o = o} {t = t} {to = to} {q = q} {m = m} h0) =
          local_place ops placed world all p objects running call g scene o t to q m h0
      place_ok i0 i1 i2 i3 i4 (place_global {o = o} {to = to} {q = q} {m = m}) =
          global_place ops placed world all p objects running call g scene o to q m
      place_ok i0 i1 i2 i3 i4 (place_literal {o = o} {to = to} {q = q} {m = m}) =
          literal_place ops placed world all p objects running call g scene o to q m
      place_ok i0 i1 i2 i3 i4 (place_function {f = f} {to = to} {q = q} {m = m}) =
          function_place ops placed world all p objects running call g scene f to q m
      place_ok i0 i1 i2 i3 i4 (place_deref {e = e} {to = to} {q = q} {m = m} {n = n} {c = c} h0) =
          deref_place ops placed world all p objects running call g scene e to q m n c
          (value_ok pointer_kind e to m n c h0)
      place_ok i0 i1 i2 i3 i4 (place_member_of {e = e} {t = t} {to = to} {offset = offset} {q = q} {m = m} h0) =
          member_of_place ops placed world all p objects running call g scene e t to offset q m h0
      place_ok i0 i1 i2 i3 i4 (place_member {e = e} {to = to} {offset = offset} {q = q} {m = m} {n = n} {c = c} h0) =
          member_place ops placed world all p objects running call g scene e to offset q m n c (place_ok e to m n c h0)
      place_ok i0 i1 i2 i3 i4 (place_aggregate {e = e} {to = to} {m = m} {n = n} {c = c} h0) =
          aggregate_place ops placed world all p objects running call g scene e to m n c (place_ok e to m n c h0)
      place_ok i0 i1 i2 i3 i4 (place_comma {a = a} {b = b} {to = to} {l = l} {m = m} {n = n} {c = c} {d = d} h0 h1) =
          comma_place ops placed world all p objects running call g scene a b to l m n c d (effect_ok a l m c h0)
          (place_ok b to m n d h1)
      place_ok i0 i1 i2 i3 i4 (place_choice {j = j} {e = e} {a = a} {b = b} {to = to} {q = q} {l = l} {m = m} {n = n}
          {o = o} {c = c} {d = d} {f = f} h0 h1 h2) =
          choice_place ops placed world all p objects running call g scene q j e a b to l m n o c d f
          (condition_ok j e false l.labels (labelled 2 l) m c h0) (place_ok a to m n d h1) (place_ok b to n o f h2)
      place_ok i0 i1 i2 i3 i4 (place_assigned {e = e} {t = t} {to = to} {m = m} {n = n} {c = c} h0) =
          place_of_pointer ops placed world all p objects running call g scene e t to m n c (struct_ok e t m n c h0)

      pub assignment_ok : (i0 : TacKind) (i1 : Ex) (i2 : Option ℕ) (i3 : Mark) (i4 : Mark) (i5 : Code) →
          IsAssignment p signs (kinds ops world all p objects running call g) g i0 i1 i2 i3 i4 i5 →
          Assignment_runs i0 i1 i2 i3 i4 i5
      assignment_ok i0 i1 i2 i3 i4 i5 (assignment_variable {k = k} {b = b} {x = x} {t = t} {to = to} {q = q} {m = m}
          {n = n} {c = c} h0 h1) = variable_assignment ops placed world all p objects running call g scene k b x t to
          q m n c h0 (value_ok k b t m n c h1)
      assignment_ok i0 i1 i2 i3 i4 i5 (assignment_object {k = k} {a = a} {b = b} {at = at} {t = t} {q = q} {l = l}
          {m = m} {n = n} {c = c} {d = d} h0 h1 h2) =
          object_assignment ops placed world all p objects running call g scene k a b at t q l m n c d h0
          (pointer_ok (Cons b Nil) a at l m c h1) (operand_ok Nil k b t m n d h2)
      assignment_ok i0 i1 i2 i3 i4 i5 (assignment_object_value {k = k} {a = a} {b = b} {at = at} {t = t} {to = to}
          {q = q} {l = l} {m = m} {n = n} {o = o} {c = c} {d = d} h0 h1 h2 h3) =
          object_value_assignment ops placed world all p objects running call g scene k a b at t to q l m n o c d h0
          (pointer_ok (Cons b Nil) a at l m c h1) h2 (value_ok k b t n o d h3)
      assignment_ok i0 i1 i2 i3 i4 i5 (assignment_changed_variable {op = op} {computed = computed} {j = j} {k = k}
          {b = b} {x = x} {t = t} {y = y} {to = to} {q = q} {s = s} {m = m} {n = n} {c = c} h0 h1 h2 h3) =
          changed_variable ops placed world all p objects running call g scene op computed j k b x t y to q s m n c h0
          h1 (operand_ok Nil k b y m n c h2) h3
      assignment_ok i0 i1 i2 i3 i4 i5 (assignment_changed_object {op = op} {computed = computed} {j = j} {k = k} {a = a}
          {b = b} {at = at} {t = t} {y = y} {to = to} {q = q} {s = s} {l = l} {m = m} {n = n} {o = o} {c = c}
          {d = d} h0 h1 h2 h3 h4 h5) =
          changed_object ops placed world all p objects running call g scene op computed j k a b at t y to q s l m n o c
          d h0 h1
          (pointer_ok (Cons b Nil) a at l m c h2) (operand_ok Nil k b y m n d h3) h4 h5
      assignment_ok i0 i1 i2 i3 i4 i5 (assignment_stepped_variable {op = op} {computed = computed} {j = j} {x = x}
          {t = t} {to = to} {old = old} {q = q} {s = s} {m = m} h0 h1 h2 h3) =
          stepped_variable ops placed world all p objects running call g scene op computed j x t to old q s m h0 h1 h2
          h3
      assignment_ok i0 i1 i2 i3 i4 i5 (assignment_stepped_variable_old {op = op} {computed = computed} {j = j} {x = x}
          {t = t} {v = v} {to = to} {q = q} {s = s} {m = m} {n = n} h0 h1 h2 h3) =
          stepped_variable_old ops placed world all p objects running call g scene op computed j x t v to q s m n h0 h1
          h2 h3
      assignment_ok i0 i1 i2 i3 i4 i5 (assignment_stepped_object {op = op} {computed = computed} {j = j} {a = a}
          {at = at} {t = t} {to = to} {old = old} {q = q} {s = s} {l = l} {m = m} {n = n} {c = c} h0 h1 h2 h3 h4 h5) =
          stepped_object ops placed world all p objects running call g scene op computed j a at t to old q s l m n c h0
          h1 h2
          (pointer_ok Nil a at l m c h3) h4 h5
      assignment_ok i0 i1 i2 i3 i4 i5 (assignment_stepped_object_old {op = op} {computed = computed} {j = j} {a = a}
          {at = at} {t = t} {to = to} {q = q} {s = s} {l = l} {m = m} {n = n} {c = c} h0 h1 h2 h3 h4) =
          stepped_object_old ops placed world all p objects running call g scene op computed j a at t to q s l m n c h0
          h1
          (pointer_ok Nil a at l m c h2) h3 h4

      pub struct_ok : (i0 : Ex) (i1 : ℕ) (i2 : Mark) (i3 : Mark) (i4 : Code) →
          IsStructAssignment p signs (kinds ops world all p objects running call g) g i0 i1 i2 i3 i4 →
          Struct_runs i0 i1 i2 i3 i4
      struct_ok i0 i1 i2 i3 i4 (struct_copy {bytes = bytes} {unit = unit} {t = t} {a = a} {b = b} {q = q} {s = s}
          {l = l} {m = m} {n = n} {c = c} {d = d} h0 h1 h2) =
          struct_copy_law ops placed world all p objects running call g scene bytes unit t a b q s l m n c d h0
          (pointer_ok (Cons b Nil) a t l m c h1) (copy_ok (Reaches t) s bytes unit b m n d h2)

      pub copy_ok : (i0 : Target) (i1 : Pos) (i2 : ℕ) (i3 : ℕ) (i4 : Ex) (i5 : Mark) (i6 : Mark) (i7 : Code) →
          IsCopy p signs (kinds ops world all p objects running call g) g i0 i1 i2 i3 i4 i5 i6 i7 →
          Copy_runs i0 i1 i2 i3 i4 i5 i6 i7
      copy_ok i0 i1 i2 i3 i4 i5 i6 i7 (copy_choice {to = to} {s = s} {q = q} {bytes = bytes} {unit = unit} {j = j}
          {e = e} {a = a} {b = b} {l = l} {m = m} {n = n} {o = o} {c = c} {d = d} {f = f} h0 h1 h2) =
          choice_copy ops placed world all p objects running call g scene to s q bytes unit j e a b l m n o c d f
          (condition_ok j e false l.labels (labelled 2 l) m c h0) (copy_ok to s bytes unit a m n d h1)
          (copy_ok to s bytes unit b n o f h2)
      copy_ok i0 i1 i2 i3 i4 i5 i6 i7 (copy_comma {to = to} {s = s} {bytes = bytes} {unit = unit} {a = a} {b = b}
          {l = l} {m = m} {n = n} {c = c} {d = d} h0 h1) =
          comma_copy ops placed world all p objects running call g scene to s bytes unit a b l m n c d
          (effect_ok a l m c h0) (copy_ok to s bytes unit b m n d h1)
      copy_ok i0 i1 i2 i3 i4 i5 i6 i7 (copy_aggregate {to = to} {s = s} {bytes = bytes} {unit = unit} {e = e} {m = m}
          {n = n} {c = c} h0) = aggregate_copy ops placed world all p objects running call g scene to s bytes unit e m
          n c (copy_ok to s bytes unit e m n c h0)
      copy_ok i0 i1 i2 i3 i4 i5 i6 i7 (copy_plain {to = to} {s = s} {q = q} {bytes = bytes} {unit = unit} {t = t}
          {e = e} {m = m} {n = n} {c = c} h0 h1) =
          plain_copy ops placed world all p objects running call g scene to s q bytes unit t e m n c h0
          (pointer_ok Nil e t m n c h1)

      pub arguments_ok : (i0 : Exs) (i1 : List TacKind) (i2 : List ℕ) (i3 : Mark) (i4 : Mark) (i5 : Code) →
          IsArguments p signs (kinds ops world all p objects running call g) g i0 i1 i2 i3 i4 i5 →
          Arguments_run i0 i1 i2 i3 i4 i5
      arguments_ok i0 i1 i2 i3 i4 i5 (arguments_none {m = m}) =
          no_arguments ops placed world all p objects call signs running g scene m
      arguments_ok i0 i1 i2 i3 i4 i5 (arguments_one {e = e} {es = es} {k = k} {ks = ks} {t = t} {ts = ts} {l = l}
          {m = m} {n = n} {c = c} {d = d} h0 h1) =
          one_argument ops placed world all p objects call signs running g scene e es k ks t ts l m n c d
          (operand_ok es k e t l m c h0) (arguments_ok es ks ts m n d h1)

      pub call_ok : (i0 : Option TacKind) (i1 : Ex) (i2 : Option ℕ) (i3 : Mark) (i4 : Mark) (i5 : Code) →
          IsAsked i2 i0 → IsCall p signs (kinds ops world all p objects running call g) g i0 i1 i2 i3 i4 i5 →
          Call_runs i0 i1 i2 i3 i4 i5
      call_ok i0 i1 i2 i3 i4 i5 asked (call_named {k = k} {to = to} {f = f} {fitting = fitting} {es = es} {ks = ks}
          {ts = ts} {q = q} {s = s} {u = u} {m = m} {n = n} {c = c} h0 inside h1 h2) =
          named_call ops placed world all p objects call signs running g scene calls k to f fitting es ks ts q s u m n c
          asked h0 inside h1 (arguments_ok es ks ts m n c h2)
      call_ok i0 i1 i2 i3 i4 i5 asked (call_by_value {k = k} {to = to} {v = v} {of = of} {e = e} {es = es} {ks = ks}
          {ts = ts} {q = q} {l = l} {m = m} {n = n} {c = c} {d = d} h0 h1 h2) =
          value_call_law ops placed world all p objects call signs running g scene calls k to v of e es ks ts q l m n c
          d asked h0 (operand_ok es pointer_kind e v l m c h1) (arguments_ok es ks ts m n d h2)
      call_ok i0 i1 i2 i3 i4 i5 asked (call_library {k = k} {to = to} {service = service} {es = es} {ks = ks} {ts = ts}
          {q = q} {m = m} {n = n} {c = c} h0 h1 h2) =
          library_call ops placed world all p objects call signs running g scene bytes k to service es ks ts q m n c
          asked h0 h1
          (arguments_ok es ks ts m n c h2)
