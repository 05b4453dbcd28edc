-- Temps, and values made of integers, hold no other pointers.
use Rattle.std.proofs.Common.{ℕ, zero, suc, Bool, true, false, List, [], ◌∷◌, ◌++◌, length, drop}
use Rattle.std.proofs.Common.{map, arith, Option, Some, None, Result, Ok, Err}
use Rattle.std.specs.Prelude.{IfOk, slice_get, slice_set}
use Rattle.ck_int.specs.declared.kinds.IntKind.{IntKind}
use Rattle.ck_int.specs.declared.kinds.IntKind.TheVariants as int
use Rattle.obj_mem.specs.declared.ending.Fault.{Fault}
use Rattle.obj_mem.specs.Objects.{Shape}
use Rattle.obj_mem.specs.Values as value
use Rattle.obj_mem.specs.Values.{Value}
use Rattle.cheri_c_sem.specs.Kinds.{Kind, Plain, Capability, truth, zero_of, read_as}
use Rattle.cheri_c_sem.specs.Modes.{Store}
use Rattle.cheri_c_sem.specs.Operations.{Operations, on_ok, to_int, convert_by, int_by, number_by}
use Rattle.ck_int.specs.declared.kinds.IntOp.{IntOp}
use Rattle.cheri_c_sem.specs.Kinds.{int_kind, number_of}
use Rattle.mean_steps.specs.Parts.{Now}
use Rattle.tac_ir.specs.Effects.{kind_of, held}
use Rattle.tac_ir.specs.Meaning.{entry_temps, with_result}
use Rattle.tac_ir.specs.declared.code.TacKind.{TacKind}
use Rattle.tac_steps.specs.Machine.{Caller, value_in}
use Rattle.tac_run.specs.Bases.{IsBased, Grows}
use Rattle.tac_run.specs.Moments.{AreValuesBased, AreTempsBased, IsCall, AreCallers}
use Rattle.tac_run.proofs.Objects.{later}

module _ (shapes : List Shape) where
  pub held_based : (vars : List (Option Value)) (t : ℕ) → AreTempsBased shapes vars →
      IsBased shapes (held (slice_get vars t))
  held_based [] t h = tt
  held_based (None ∷ os) zero h = tt
  held_based (Some v ∷ os) zero h = h.0
  held_based (o ∷ os) (suc t) h = held_based os t h.1

  pub set_based : (vars : List (Option Value)) (t : ℕ) (v : Value) → AreTempsBased shapes vars → IsBased shapes v →
      AreTempsBased shapes (slice_set vars t (Some v))
  set_based [] t v h b = tt
  set_based (o ∷ os) zero v h b = (b, h.1)
  set_based (o ∷ os) (suc t) v h b = (h.0, set_based os t v h.1 b)

  pub result_based : (vars : List (Option Value)) (to : Option ℕ) (v : Value) → AreTempsBased shapes vars →
      IsBased shapes v → AreTempsBased shapes (with_result vars to v)
  result_based vars None v h b = h
  result_based vars (Some t) v h b = set_based vars t v h b

  pub values_held : {M : Type 0} (n : Now M) (ts : List ℕ) → AreTempsBased shapes n.vars →
      AreValuesBased shapes (map (value_in n) ts)
  values_held n [] h = tt
  values_held n (t ∷ ts) h = (held_based n.vars t h, values_held n ts h)

  zero_based : (k : Kind) → IsBased shapes (zero_of k)
  zero_based (Plain k) = tt
  zero_based (Capability s) = tt

  zeros_based : (ks : List TacKind) → AreTempsBased shapes (map (λ k. Some (zero_of (kind_of k))) ks)
  zeros_based [] = tt
  zeros_based (k ∷ ks) = (zero_based (kind_of k), zeros_based ks)

  both_based : (vs : List Value) (os : List (Option Value)) → AreValuesBased shapes vs → AreTempsBased shapes os →
      AreTempsBased shapes (map Some vs ++ os)
  both_based [] os h g = g
  both_based (v ∷ vs) os h g = (h.0, both_based vs os h.1 g)

  pub entry_based : (kinds : List TacKind) (vs : List Value) → AreValuesBased shapes vs →
      AreTempsBased shapes (entry_temps kinds vs)
  entry_based kinds vs h = both_based vs (map (λ k. Some (zero_of (kind_of k))) (drop (length vs) kinds)) h
      (zeros_based (drop (length vs) kinds))

  pub truth_based : (b : Bool) → IsBased shapes (truth b)
  truth_based true = tt
  truth_based false = tt

  pub read_based : (k : Kind) (v : Value) → IsBased shapes v → IsBased shapes (read_as k v)
  read_based (Plain k) v h = tt
  read_based (Capability s) v h = h

-- ---- in memory that grew

module _ (s t : List Shape) (g : Grows s t) where
  pub temps_later : (os : List (Option Value)) → AreTempsBased s os → AreTempsBased t os
  temps_later [] h = tt
  temps_later (None ∷ os) h = (tt, temps_later os h.1)
  temps_later (Some v ∷ os) h = (later s t v g h.0, temps_later os h.1)

  pub values_later : (vs : List Value) → AreValuesBased s vs → AreValuesBased t vs
  values_later [] h = tt
  values_later (v ∷ vs) h = (later s t v g h.0, values_later vs h.1)

  pub call_later : (objects : ℕ) (vars : List (Option Value)) (first frame : ℕ) → IsCall s objects vars first frame →
      IsCall t objects vars first frame
  call_later objects vars first frame h =
      let more = g.longer in
      let room = h.room in
      record { temps = temps_later vars h.temps; room = omega arith; frame = h.frame }

  pub callers_later : (objects : ℕ → List ℕ) (cs : List Caller) → AreCallers s objects cs → AreCallers t objects cs
  callers_later objects [] h = tt
  callers_later objects (c ∷ cs) h =
      (call_later (length (objects c.fun)) c.vars c.first c.frame h.0, callers_later objects cs h.1)

-- ---- operations that give integers

module _ (ops : Operations Store) (m : Store) (shapes : List Shape) where
  number_alone : (r : Result ℕ Fault) → IfOk (on_ok ops (λ n. Ok (value.Int n)) r) (IsBased shapes)
  number_alone (Ok n) = tt
  number_alone (Err e) = tt

  numbers_alone : (f : ℕ → Result ℕ Fault) (r : Result ℕ Fault) →
      IfOk (on_ok ops (λ b. on_ok ops (λ n. Ok (value.Int n)) (f b)) r) (IsBased shapes)
  numbers_alone f (Ok b) = number_alone (f b)
  numbers_alone f (Err e) = tt

  pub int_based : (op : IntOp) (k : IntKind) (count : Kind) (x y : Value) →
      IfOk (int_by ops m op k count x y) (IsBased shapes)
  int_based op k count x y =
      numbers_alone (λ b. ops.int op k (int_kind count) (number_of x) b) (number_by ops m count y)

  truth_alone : (r : Result Bool Fault) → IfOk (on_ok ops (λ b. Ok (truth b)) r) (IsBased shapes)
  truth_alone (Ok true) = tt
  truth_alone (Ok false) = tt
  truth_alone (Err e) = tt

  wrapped_alone : (f : ℕ → ℕ) (r : Result ℕ Fault) → IfOk (on_ok ops (λ a. Ok (value.Int (f a))) r) (IsBased shapes)
  wrapped_alone f (Ok n) = tt
  wrapped_alone f (Err e) = tt

  to_int_based : (k : IntKind) (x : Value) → IfOk (to_int ops m k x) (IsBased shapes)
  to_int_based int.Bool x = truth_alone _
  to_int_based int.I8 x = wrapped_alone _ (ops.address m x)
  to_int_based int.U8 x = wrapped_alone _ (ops.address m x)
  to_int_based int.I16 x = wrapped_alone _ (ops.address m x)
  to_int_based int.U16 x = wrapped_alone _ (ops.address m x)
  to_int_based int.I32 x = wrapped_alone _ (ops.address m x)
  to_int_based int.U32 x = wrapped_alone _ (ops.address m x)
  to_int_based int.I64 x = wrapped_alone _ (ops.address m x)
  to_int_based int.U64 x = wrapped_alone _ (ops.address m x)

  pub convert_based : (old new : Kind) (x : Value) → IsBased shapes x →
      IfOk (convert_by ops m old new x) (IsBased shapes)
  convert_based (Plain j) (Plain k) x h = tt
  convert_based (Plain j) (Capability s) x h = tt
  convert_based (Capability s) (Plain k) x h = to_int_based k x
  convert_based (Capability s) (Capability s') x h = h
