-- No instruction changes which object is the first of its function's own.
use Rattle.std.proofs.Common.{◌≡◌, ℕ, zero, suc, ◌+◌, ◌/◌, ◌%◌, Bool, true, false, Option, Some, None, Result}
use Rattle.std.proofs.Common.{Ok, Err, List, arith, refl, sym, ap, ◌∙◌}
use Rattle.std.specs.Prelude.{length, slice_get, slice_index_or}
use Rattle.ck_base.specs.World.{World, nothing_done, fails_after}
use Rattle.ck_base.specs.Runs.{with_put, with_read}
use Rattle.ck_base.specs.declared.positions.Pos.{Pos}
use Rattle.c_tree.specs.declared.typed.Typed.{Typed}
use Rattle.cap_ops.specs.declared.access.Cause.TheVariants as cause
use Rattle.obj_mem.specs.Values as value
use Rattle.obj_mem.specs.Values.{Value}
use Rattle.obj_mem.specs.declared.ending.Fault.{Fault}
use Rattle.obj_mem.specs.declared.ending.UnitFault.{UnitFault}
use Rattle.obj_mem.specs.declared.ending.Ending.{Ending}
use Rattle.obj_mem.specs.declared.ending.Ending.TheVariants as ending
use Rattle.cheri_c_sem.specs.Kinds.{Kind, bytes_of, nothing, number_of, read_as, truth}
use Rattle.cheri_c_sem.specs.Meaning.{Place, At, position_of, capability_of, further, first_of, load, store, copy_units}
use Rattle.cheri_c_sem.specs.Meaning.{called, compatible, serve}
use Rattle.cheri_c_sem.specs.Modes.{Store}
use Rattle.cheri_c_sem.specs.Operations.{Operations, compare_by, convert_by, int_by, is_true}
use Rattle.cheri_c_sem.specs.Steps.{State, Fate, Then, ◌>>=◌, over, give, ends, answer, unit_answer, ask, choose}
use Rattle.cheri_c_sem.specs.Steps.{put, get, byte_or_end, set_memory, fault_end, unit_end}
use Rattle.tac_ir.specs.Effects.{Next, On, To, Pause, Back, effect, no_position, kind_of, kind_at}
use Rattle.tac_ir.specs.Effects.{service_of, temp_in, optional, amount_of, set, set_optional, fits, way, same}
use Rattle.tac_ir.specs.declared.code.Amount.{Amount}
use Rattle.tac_ir.specs.declared.code.Amount.TheVariants as amount
use Rattle.tac_ir.specs.declared.code.LibOp.{LibOp}
use Rattle.tac_ir.specs.declared.code.LibOp.TheVariants as lib
use Rattle.tac_ir.specs.declared.code.TacInstr.{TacInstr}
use Rattle.tac_ir.specs.declared.code.TacInstr.TheVariants as instr
use Rattle.tac_ir.specs.declared.code.TacKind.{TacKind}
use Rattle.tac_ir.specs.declared.code.TacKind.TheVariants as kind
use Rattle.select_whole.specs.Visited.{Whole, Means, ops_of, kinds_at}

-- A part of a run gives a state with this first object, or the run ends
data Comes {M A : Type 0} (first : ℕ) (c : (A → State M → Fate) → Fate) : Type 0 where
  Gives : (x : A) (u : State M) → u.first ≡ first → ((k : A → State M → Fate) → c k ≡ k x u) → Comes first c
  Stops : (z : Fate) → ((k : A → State M → Fate) → c k ≡ z) → Comes first c

abbrev Steady : {M A : Type 0} → Then M A → Type 0
Steady c = (s : State _) → Comes s.first (c s)

module _ {M : Type 0} where
  steady_give : {A : Type 0} (x : A) → Steady {M = M} (give x)
  steady_give x s = Gives x s refl (λ k. refl)

  steady_ends : {A : Type 0} (e : Ending) → Steady {M = M} {A = A} (ends e)
  steady_ends e s = Stops (over e s) (λ k. refl)

  steady_bind : {A B : Type 0} (c : Then M A) (f : A → Then M B) → Steady c → ((x : A) → Steady (f x))
      → Steady (c >>= f)
  steady_bind c f h i s = by (h s)
    where
      then_by : (x : _) (u : State M) → u.first ≡ s.first
          → ((k : _ → State M → Fate) → c s k ≡ k x u) → Comes u.first (f x u) → Comes s.first ((c >>= f) s)
      then_by x u q e (Stops z e') = Stops z (λ k. e (λ y t. f y t k) ∙ e' k)
      then_by x u q e (Gives y v q' e') = Gives y v (q' ∙ q) (λ k. e (λ z t. f z t k) ∙ e' k)

      by : Comes s.first (c s) → Comes s.first ((c >>= f) s)
      by (Stops z e) = Stops z (λ k. e (λ y t. f y t k))
      by (Gives x u q e) = then_by x u q e (i x u)

  steady_answer : {A : Type 0} (pos : Pos) (r : Result A Fault) → Steady {M = M} (answer pos r)
  steady_answer pos (Ok x) = steady_give x
  steady_answer pos (Err f) = steady_ends (fault_end f pos)

  steady_ask : {A : Type 0} (pos : Pos) (f : M → Result A Fault) → Steady {M = M} (ask pos f)
  steady_ask pos f s = steady_answer pos (f s.mem) s

  steady_unit : {A : Type 0} (from to : Pos) (r : Result A UnitFault) → Steady {M = M} (unit_answer from to r)
  steady_unit from to (Ok x) = steady_give x
  steady_unit from to (Err f) = steady_ends (unit_end f from to)

  steady_memory : (m : M) → Steady (set_memory m)
  steady_memory m s = Gives tt (record s { mem = m }) refl (λ k. refl)

  steady_set : (t : ℕ) (v : Value) → Steady {M = M} (set t v)
  steady_set t v s =
      Gives On (record s { vars = Rattle.std.specs.Prelude.slice_set s.vars t (Some v) }) refl (λ k. refl)

  steady_set_optional : (t : Option ℕ) (v : Value) → Steady {M = M} (set_optional t v)
  steady_set_optional None v = steady_give On
  steady_set_optional (Some t) v = steady_set t v

  steady_optional : (t : Option ℕ) → Steady {M = M} (optional t)
  steady_optional None s = steady_give nothing s
  steady_optional (Some t) s = steady_give _ s

  steady_amount : (a : Amount) → Steady {M = M} (amount_of a)
  steady_amount (amount.Number n) s = steady_give n s
  steady_amount (amount.Temp t) s = steady_give _ s

  steady_choice : {A : Type 0} (b : Bool) (c d : Then M A) (s : State M) → Comes s.first (c s) → Comes s.first (d s)
      → Comes s.first (choose b c d s)
  steady_choice true c d s h i = h
  steady_choice false c d s h i = i

-- ---- operations

module _ {M : Type 0} (ops : Operations M) (w : World) where
  steady_load : (k : Kind) (pos : Pos) (v : Value) → Steady (load ops w k (At pos v))
  steady_load k pos v = steady_bind _ _ (steady_ask pos (λ m. ops.load m v (bytes_of k)))
      (λ r. steady_give (read_as k r))

  steady_store : (k : Kind) (pos : Pos) (to v : Value) → Steady (store ops w k (At pos to) v)
  steady_store k pos to v =
      steady_bind _ _ (steady_ask pos (λ m. ops.store m to (bytes_of k) v)) (λ m. steady_memory m)

  steady_copies : (j unit at : ℕ) (from to : Place) → Steady (copy_units ops w j unit at from to)
  steady_copies zero unit at from to = steady_give tt
  steady_copies (suc j) unit at from to =
      steady_bind _ _
      (λ s. steady_unit (position_of from) (position_of to)
      (ops.copy_unit s.mem (further (capability_of from) at) (further (capability_of to) at) unit) s)
      (λ m. steady_bind _ _ (steady_memory m) (λ _. steady_copies j unit (at + unit) from to))

  steady_fitting : (pos : Pos) (f : ℕ) (b : Bool) → Steady (compatible ops w pos f b)
  steady_fitting pos f true = steady_give f
  steady_fitting pos f false = steady_ends (ending.Outside pos)

  steady_called : (pos : Pos) (of : List Bool) (v : Value) → Steady (called ops w pos of v)
  steady_called pos of (value.Fun f) = steady_fitting pos f (slice_index_or of f false)
  steady_called pos of (value.Live object low high offset permissions) = steady_ends (ending.Trap cause.Execute pos)
  steady_called pos of (value.Raw address upper) = steady_ends (ending.Trap cause.Tag pos)
  steady_called pos of (value.Int n) = steady_ends (ending.Trap cause.Tag pos)

  steady_put : (b : ℕ) → Steady {M = M} (put w b)
  steady_put b s =
      steady_choice (fails_after w.failing_put (length s.done.output)) _ _ s (steady_ends ending.WriteFault s)
      (Gives tt (record s { done = with_put s.done b }) refl (λ k. refl))

  steady_get : Steady {M = M} (get w)
  steady_get s =
      steady_choice (fails_after w.failing_read s.done.reads) _ _ s (steady_ends ending.ReadFault s)
      (Gives (slice_get w.bytes s.done.reads) (record s { done = with_read s.done }) refl (λ k. refl))

  steady_serve : (pos : Pos) (op : LibOp) (vs : List Value) → Steady (serve ops w pos (service_of op) vs)
  steady_serve pos lib.PutChar vs =
      steady_bind _ _ (steady_put (number_of (first_of vs) % 256)) (λ _. steady_give _)
  steady_serve pos lib.GetChar vs = steady_bind _ _ steady_get (λ b. steady_give (byte_or_end b))
  steady_serve pos lib.Malloc vs =
      steady_bind _ _ (steady_ask pos (λ m. ops.allocate m (number_of (first_of vs))))
      (λ r. steady_bind _ _ (steady_memory r.1) (λ _. steady_give r.0))
  steady_serve pos lib.Exit vs = steady_ends (ending.Exit (number_of (first_of vs) % 256))

  -- ---- instructions

  module _ (p : Typed) (kinds : List TacKind) where
    steady : (i : TacInstr) → Steady (effect ops w p kinds i)
    steady (instr.Const to (kind.Int k) v) s = steady_set to (value.Int v) s
    steady (instr.Const to (kind.Cap signed) v) s = steady_set to _ s
    steady (instr.Copy to from) s = steady_set to _ s
    steady (instr.Int op k to a b) s =
        steady_bind _ _
        (steady_ask no_position (λ m. int_by ops m op k (kind_at kinds b) (temp_in s a) (temp_in s b)))
        (λ v. steady_set to v) s
    steady (instr.Cmp op k to a b) s =
        steady_bind _ _
        (steady_ask no_position (λ m. compare_by ops m op (kind_of k) (temp_in s a) (temp_in s b)))
        (λ r. steady_set to (truth r)) s
    steady (instr.Convert to from old new) s =
        steady_bind _ _
        (steady_ask no_position (λ m. convert_by ops m (kind_of old) (kind_of new) (temp_in s from)))
        (λ v. steady_set to v) s
    steady (instr.Cap op to a b) s =
        steady_bind _ _ (steady_optional b)
        (λ y. steady_bind _ _ (steady_ask no_position _) (λ v. steady_set to v)) s
    steady (instr.Offset to base by) s =
        steady_bind _ _ (steady_amount by)
        (λ n. steady_bind _ _ (steady_ask no_position _) (λ v. steady_set to v)) s
    steady (instr.Narrow to base by exact) s =
        steady_bind _ _ (steady_amount by)
        (λ n. steady_bind _ _ (steady_ask no_position _) (λ v. steady_set to v)) s
    steady (instr.Load to from k pos) s =
        steady_bind _ _ (steady_load (kind_of k) pos _) (λ v. steady_set to v) s
    steady (instr.Store at v k pos) s =
        steady_bind _ _ (steady_store (kind_of k) pos _ _) (λ _. steady_give On) s
    steady (instr.Local to var) s = steady_set to _ s
    steady (instr.Global to number literal) s = steady_set to _ s
    steady (instr.Function to fun) s = steady_set to (value.Fun fun) s
    steady (instr.Zero var) s = Gives On (record s { mem = ops.zero s.mem (s.first + var) }) refl (λ k. refl)
    steady (instr.CopyUnits from to bytes unit from_pos to_pos) s =
        steady_bind _ _ (steady_copies (bytes / unit) unit 0 _ _) (λ _. steady_give On) s
    steady (instr.Label l) s = steady_give On s
    steady (instr.Jump l) s = steady_give (To l) s
    steady (instr.Branch on when l) s =
        steady_bind _ _ (steady_ask no_position (λ m. is_true ops m (kind_at kinds on) (temp_in s on)))
        (λ c. steady_give (way ops w p (same ops w p when c) l)) s
    steady (instr.Call to fun args) s = steady_give _ s
    steady (instr.CallValue to v of args pos) s =
        steady_bind _ _ (steady_called pos (fits ops w p of) _) (λ f. steady_give _) s
    steady (instr.Lib op to args) s =
        steady_bind _ _ (steady_serve no_position op _) (λ v. steady_set_optional to v) s
    steady instr.Turn s = steady_give Pause s
    steady (instr.Return v) s = steady_bind _ _ (steady_optional v) (λ x. steady_give (Back x)) s

-- what tells the first object
abbrev told : Fate → ℕ
told z = z.done.reads

abbrev telling : (ℕ → ℕ) → Next → State Store → Fate
telling f next u = record { done = record nothing_done { reads = f u.first }; ending = ending.Turns }

pub first_stays : (g : Whole) (w : World) (fun : ℕ) (i : TacInstr) (t u : State Store) (next : Next)
    → Means g w fun i t next u → u.first ≡ t.first
first_stays g w fun i t u next means = by (steady (ops_of g) w g.program (kinds_at g fun) i t)
  where
    apart : (n : ℕ) → n ≡ suc n → ⊥
    apart n q = omega (arith, q)

    by : Comes t.first (effect (ops_of g) w g.program (kinds_at g fun) i t) → u.first ≡ t.first
    by (Gives x v q e) = ap told (sym (means (telling (λ n. n))) ∙ e (telling (λ n. n))) ∙ q
    by (Stops z e) =
        absurd (apart 0 (ap told (sym (means (telling (λ n. 0))) ∙ e (telling (λ n. 0))
        ∙ sym (e (telling (λ n. 1))) ∙ means (telling (λ n. 1)))))
