-- Where instructions lead: calls alone into functions, with the temp for the result, and Turns alone to a pause.
use Rattle.std.proofs.Common.{◌≡◌, ℕ, zero, suc, ◌+◌, ◌/◌, ◌%◌, Bool, true, false, Option, Some, None, Result}
use Rattle.std.proofs.Common.{◌*◌, Ok, Err, List, arith, refl, sym, ap, ◌∙◌, subst}
use Rattle.std.specs.Prelude.{length, slice_get, slice_index_or}
use Rattle.ck_base.specs.World.{World, nothing_done, fails_after}
use Rattle.ck_base.specs.Runs.{with_put, with_read}
use Rattle.ck_base.specs.declared.positions.Pos.{Pos}
use Rattle.c_tree.specs.declared.typed.Typed.{Typed}
use Rattle.cap_ops.specs.declared.access.Cause.TheVariants as cause
use Rattle.obj_mem.specs.Values as value
use Rattle.obj_mem.specs.Values.{Value}
use Rattle.obj_mem.specs.declared.ending.Fault.{Fault}
use Rattle.obj_mem.specs.declared.ending.UnitFault.{UnitFault}
use Rattle.obj_mem.specs.declared.ending.Ending.{Ending}
use Rattle.obj_mem.specs.declared.ending.Ending.TheVariants as ending
use Rattle.cheri_c_sem.specs.Kinds.{Kind, bytes_of, nothing, number_of, read_as, truth}
use Rattle.cheri_c_sem.specs.Meaning.{Place, At, position_of, capability_of, further, first_of, load, store, copy_units}
use Rattle.cheri_c_sem.specs.Meaning.{called, compatible, serve}
use Rattle.cheri_c_sem.specs.Modes.{Store}
use Rattle.cheri_c_sem.specs.Operations.{Operations, compare_by, convert_by, int_by, is_true}
use Rattle.cheri_c_sem.specs.Steps.{State, Fate, Then, ◌>>=◌, over, give, ends, answer, unit_answer, ask, choose}
use Rattle.cheri_c_sem.specs.Steps.{put, get, byte_or_end, set_memory, fault_end, unit_end}
use Rattle.tac_ir.specs.Effects.{Next, On, To, Pause, Back, Into, effect, no_position, kind_of, kind_at}
use Rattle.tac_ir.specs.Effects.{service_of, temp_in, optional, amount_of, set, set_optional, fits, way, same}
use Rattle.tac_ir.specs.Temps.{IsIn, falls, goes_to}
use Rattle.tac_ir.specs.WellFormed.{is_turn}
use Rattle.tac_ir.specs.declared.code.Amount.{Amount}
use Rattle.tac_ir.specs.declared.code.Amount.TheVariants as amount
use Rattle.tac_ir.specs.declared.code.LibOp.{LibOp}
use Rattle.tac_ir.specs.declared.code.LibOp.TheVariants as lib
use Rattle.tac_ir.specs.declared.code.TacInstr.{TacInstr}
use Rattle.tac_ir.specs.declared.code.TacInstr.TheVariants as instr
use Rattle.tac_ir.specs.declared.code.TacKind.{TacKind}
use Rattle.tac_ir.specs.declared.code.TacKind.TheVariants as kind
use Rattle.select_whole.specs.Visited.{Whole, Means, ops_of, kinds_at}
use Rattle.image_runs.specs.Asked.{called_to}

-- A part of a run gives something of a kind, or the run ends
data Comes {M A : Type 0} (P : A → Type 0) (c : (A → State M → Fate) → Fate) : Type 0 where
  Gives : (x : A) (u : State M) → P x → ((k : A → State M → Fate) → c k ≡ k x u) → Comes P c
  Stops : (z : Fate) → ((k : A → State M → Fate) → c k ≡ z) → Comes P c

abbrev Any : {A : Type 0} → A → Type 0
Any x = Unit {0}

abbrev Gives_some : {M A : Type 0} → (A → Type 0) → Then M A → Type 0
Gives_some P c = (s : State _) → Comes P (c s)

abbrev Steady : {M A : Type 0} → Then M A → Type 0
Steady c = Gives_some Any c

module _ {M : Type 0} where
  steady_give : {A : Type 0} (x : A) → Steady {M = M} (give x)
  steady_give x s = Gives x s tt (λ k. refl)

  steady_ends : {A : Type 0} (e : Ending) → Steady {M = M} {A = A} (ends e)
  steady_ends e s = Stops (over e s) (λ k. refl)

  bind : {A B : Type 0} (P : B → Type 0) (c : Then M A) (f : A → Then M B) → Steady c
      → ((x : A) → Gives_some P (f x)) → Gives_some P (c >>= f)
  bind P c f h i s = by (h s)
    where
      then_by : (x : _) (u : State M)
          → ((k : _ → State M → Fate) → c s k ≡ k x u) → Comes P (f x u) → Comes P ((c >>= f) s)
      then_by x u e (Stops z e') = Stops z (λ k. e (λ y t. f y t k) ∙ e' k)
      then_by x u e (Gives y v q e') = Gives y v q (λ k. e (λ z t. f z t k) ∙ e' k)

      by : Comes Any (c s) → Comes P ((c >>= f) s)
      by (Stops z e) = Stops z (λ k. e (λ y t. f y t k))
      by (Gives x u q e) = then_by x u e (i x u)

  steady_bind : {A B : Type 0} (c : Then M A) (f : A → Then M B) → Steady c → ((x : A) → Steady (f x))
      → Steady (c >>= f)
  steady_bind c f h i = bind Any c f h i

  steady_answer : {A : Type 0} (pos : Pos) (r : Result A Fault) → Steady {M = M} (answer pos r)
  steady_answer pos (Ok x) = steady_give x
  steady_answer pos (Err f) = steady_ends (fault_end f pos)

  steady_ask : {A : Type 0} (pos : Pos) (f : M → Result A Fault) → Steady {M = M} (ask pos f)
  steady_ask pos f s = steady_answer pos (f s.mem) s

  steady_unit : {A : Type 0} (from to : Pos) (r : Result A UnitFault) → Steady {M = M} (unit_answer from to r)
  steady_unit from to (Ok x) = steady_give x
  steady_unit from to (Err f) = steady_ends (unit_end f from to)

  steady_memory : (m : M) → Steady (set_memory m)
  steady_memory m s = Gives tt (record s { mem = m }) tt (λ k. refl)

  steady_optional : (t : Option ℕ) → Steady {M = M} (optional t)
  steady_optional None s = steady_give nothing s
  steady_optional (Some t) s = steady_give _ s

  steady_amount : (a : Amount) → Steady {M = M} (amount_of a)
  steady_amount (amount.Number n) s = steady_give n s
  steady_amount (amount.Temp t) s = steady_give _ s

  steady_choice : {A : Type 0} (b : Bool) (c d : Then M A) (s : State M) → Comes Any (c s) → Comes Any (d s)
      → Comes Any (choose b c d s)
  steady_choice true c d s h i = h
  steady_choice false c d s h i = i

-- what an instruction may lead to: into a function where it is a call, with the temp for the result; to a label to
-- which it may jump; and a Turn alone pauses
abbrev pub Suits : TacInstr → Next → Type 0
Suits i (Into f vs to) = called_to i ≡ Some to
Suits i On = (is_turn i ≡ false) × (falls i ≡ true)
Suits i (To l) = (is_turn i ≡ false) × IsIn l (goes_to i)
Suits i Pause = i ≡ instr.Turn
Suits i (Back v) = Unit {0}

on_set : {M : Type 0} (P : Next → Type 0) → P On → (t : ℕ) (v : Value) → Gives_some {M = M} P (set t v)
on_set P h t v s = Gives On (record s { vars = Rattle.std.specs.Prelude.slice_set s.vars t (Some v) }) h (λ k. refl)

on_optional : {M : Type 0} (P : Next → Type 0) → P On → (t : Option ℕ) (v : Value)
    → Gives_some {M = M} P (set_optional t v)
on_optional P h None v s = Gives On s h (λ k. refl)
on_optional P h (Some t) v s = on_set P h t v s

-- ---- operations

module _ {M : Type 0} (ops : Operations M) (w : World) where
  steady_load : (k : Kind) (pos : Pos) (v : Value) → Steady (load ops w k (At pos v))
  steady_load k pos v = steady_bind _ _ (steady_ask pos (λ m. ops.load m v (bytes_of k)))
      (λ r. steady_give (read_as k r))

  steady_store : (k : Kind) (pos : Pos) (to v : Value) → Steady (store ops w k (At pos to) v)
  steady_store k pos to v =
      steady_bind _ _ (steady_ask pos (λ m. ops.store m to (bytes_of k) v)) (λ m. steady_memory m)

  steady_copies : (j unit at : ℕ) (from to : Place) → Steady (copy_units ops w j unit at from to)
  steady_copies zero unit at from to = steady_give tt
  steady_copies (suc j) unit at from to =
      steady_bind _ _
      (λ s. steady_unit (position_of from) (position_of to)
      (ops.copy_unit s.mem (further (capability_of from) at) (further (capability_of to) at) unit) s)
      (λ m. steady_bind _ _ (steady_memory m) (λ _. steady_copies j unit (at + unit) from to))

  steady_fitting : (pos : Pos) (f : ℕ) (b : Bool) → Steady (compatible ops w pos f b)
  steady_fitting pos f true = steady_give f
  steady_fitting pos f false = steady_ends (ending.Outside pos)

  steady_called : (pos : Pos) (of : List Bool) (v : Value) → Steady (called ops w pos of v)
  steady_called pos of (value.Fun f) = steady_fitting pos f (slice_index_or of f false)
  steady_called pos of (value.Live object low high offset permissions) = steady_ends (ending.Trap cause.Execute pos)
  steady_called pos of (value.Raw address upper) = steady_ends (ending.Trap cause.Tag pos)
  steady_called pos of (value.Int n) = steady_ends (ending.Trap cause.Tag pos)

  steady_put : (b : ℕ) → Steady {M = M} (put w b)
  steady_put b s =
      steady_choice (fails_after w.failing_put (length s.done.output)) _ _ s (steady_ends ending.WriteFault s)
      (Gives tt (record s { done = with_put s.done b }) tt (λ k. refl))

  steady_get : Steady {M = M} (get w)
  steady_get s =
      steady_choice (fails_after w.failing_read s.done.reads) _ _ s (steady_ends ending.ReadFault s)
      (Gives (slice_get w.bytes s.done.reads) (record s { done = with_read s.done }) tt (λ k. refl))

  steady_serve : (pos : Pos) (op : LibOp) (vs : List Value) → Steady (serve ops w pos (service_of op) vs)
  steady_serve pos lib.PutChar vs =
      steady_bind _ _ (steady_put (number_of (first_of vs) % 256)) (λ _. steady_give _)
  steady_serve pos lib.GetChar vs = steady_bind _ _ steady_get (λ b. steady_give (byte_or_end b))
  steady_serve pos lib.Malloc vs =
      steady_bind _ _ (steady_ask pos (λ m. ops.allocate m (number_of (first_of vs))))
      (λ r. steady_bind _ _ (steady_memory r.1) (λ _. steady_give r.0))
  steady_serve pos lib.Exit vs = steady_ends (ending.Exit (number_of (first_of vs) % 256))

  -- ---- instructions

  module _ (p : Typed) (kinds : List TacKind) where
    on_way : (on : ℕ) (when b : Bool) (l : ℕ)
        → Gives_some {M = M} (Suits (instr.Branch on when l)) (give (way ops w p b l))
    on_way on when true l s = Gives (To l) s (refl, (0, refl)) (λ k. refl)
    on_way on when false l s = Gives On s (refl, refl) (λ k. refl)

    steady : (i : TacInstr) → Gives_some (Suits i) (effect ops w p kinds i)
    steady (instr.Const to (kind.Int k) v) s = on_set _ (refl, refl) to (value.Int v) s
    steady (instr.Const to (kind.Cap signed) v) s = on_set _ (refl, refl) to _ s
    steady (instr.Copy to from) s = on_set _ (refl, refl) to _ s
    steady (instr.Int op k to a b) s =
        bind _ _ _
        (steady_ask no_position (λ m. int_by ops m op k (kind_at kinds b) (temp_in s a) (temp_in s b)))
        (λ v. on_set _ (refl, refl) to v) s
    steady (instr.Cmp op k to a b) s =
        bind _ _ _
        (steady_ask no_position (λ m. compare_by ops m op (kind_of k) (temp_in s a) (temp_in s b)))
        (λ r. on_set _ (refl, refl) to (truth r)) s
    steady (instr.Convert to from old new) s =
        bind _ _ _
        (steady_ask no_position (λ m. convert_by ops m (kind_of old) (kind_of new) (temp_in s from)))
        (λ v. on_set _ (refl, refl) to v) s
    steady (instr.Cap op to a b) s =
        bind _ _ _ (steady_optional b)
        (λ y. bind _ _ _ (steady_ask no_position _) (λ v. on_set _ (refl, refl) to v)) s
    steady (instr.Offset to base by) s =
        bind _ _ _ (steady_amount by)
        (λ n. bind _ _ _ (steady_ask no_position _) (λ v. on_set _ (refl, refl) to v)) s
    steady (instr.Narrow to base by exact) s =
        bind _ _ _ (steady_amount by)
        (λ n. bind _ _ _ (steady_ask no_position _) (λ v. on_set _ (refl, refl) to v)) s
    steady (instr.Load to from k pos) s =
        bind _ _ _ (steady_load (kind_of k) pos _) (λ v. on_set _ (refl, refl) to v) s
    steady (instr.Store at v k pos) s =
        bind _ _ _ (steady_store (kind_of k) pos _ _) (λ _ u. Gives On u (refl, refl) (λ k. refl)) s
    steady (instr.Local to var) s = on_set _ (refl, refl) to _ s
    steady (instr.Global to number literal) s = on_set _ (refl, refl) to _ s
    steady (instr.Function to fun) s = on_set _ (refl, refl) to (value.Fun fun) s
    steady (instr.Zero var) s = Gives On (record s { mem = ops.zero s.mem (s.first + var) }) (refl, refl) (λ k. refl)
    steady (instr.CopyUnits from to bytes unit from_pos to_pos) s =
        bind _ _ _ (steady_copies (bytes / unit) unit 0 _ _) (λ _ u. Gives On u (refl, refl) (λ k. refl)) s
    steady (instr.Label l) s = Gives On s (refl, refl) (λ k. refl)
    steady (instr.Jump l) s = Gives (To l) s (refl, (0, refl)) (λ k. refl)
    steady (instr.Branch on when l) s =
        bind _ _ _ (steady_ask no_position (λ m. is_true ops m (kind_at kinds on) (temp_in s on)))
        (λ c u. on_way on when (same ops w p when c) l u) s
    steady (instr.Call to fun args) s = Gives _ s refl (λ k. refl)
    steady (instr.CallValue to v of args pos) s =
        bind _ _ _ (steady_called pos (fits ops w p of) _) (λ f u. Gives _ u refl (λ k. refl)) s
    steady (instr.Lib op to args) s =
        bind _ _ _ (steady_serve no_position op _) (λ v. on_optional _ (refl, refl) to v) s
    steady instr.Turn s = Gives Pause s refl (λ k. refl)
    steady (instr.Return v) s = bind _ _ _ (steady_optional v) (λ x u. Gives (Back x) u tt (λ k. refl)) s

-- what tells where an instruction leads
abbrev told : Fate → ℕ
told z = z.done.reads

abbrev temp_number : Option ℕ → ℕ
temp_number None = 0
temp_number (Some n) = 1 + n

abbrev number : Next → ℕ
number On = 0
number Pause = 1
number (Back v) = 2
number (To l) = 3 + 2 * l
number (Into f vs a) = 4 + 2 * temp_number a

abbrev telling : (Next → ℕ) → Next → State Store → Fate
telling f next u = record { done = record nothing_done { reads = f next }; ending = ending.Turns }

same_temp : (a b : Option ℕ) → temp_number a ≡ temp_number b → a ≡ b
same_temp None None e = refl
same_temp None (Some n) e = absurd (omega (arith, e))
same_temp (Some n) None e = absurd (omega (arith, e))
same_temp (Some n) (Some m) e = ap Some (omega (arith, e))

known : (i : TacInstr) (x y : Next) → Suits i x → number x ≡ number y → Suits i y
known i On On h e = h
known i On (To k) h e = absurd (omega (arith, e))
known i On Pause h e = absurd (omega (arith, e))
known i On (Back v) h e = absurd (omega (arith, e))
known i On (Into j us b) h e = absurd (omega (arith, e))
known i (To l) On h e = absurd (omega (arith, e))
known i (To l) (To k) h e = let same : l ≡ k = omega (arith, e) in (h.0, subst (λ n. IsIn n (goes_to i)) same h.1)
known i (To l) Pause h e = absurd (omega (arith, e))
known i (To l) (Back v) h e = absurd (omega (arith, e))
known i (To l) (Into j us b) h e = absurd (omega (arith, e))
known i Pause On h e = absurd (omega (arith, e))
known i Pause (To k) h e = absurd (omega (arith, e))
known i Pause Pause h e = h
known i Pause (Back v) h e = absurd (omega (arith, e))
known i Pause (Into j us b) h e = absurd (omega (arith, e))
known i (Back u) On h e = absurd (omega (arith, e))
known i (Back u) (To k) h e = absurd (omega (arith, e))
known i (Back u) Pause h e = absurd (omega (arith, e))
known i (Back u) (Back v) h e = tt
known i (Back u) (Into j us b) h e = absurd (omega (arith, e))
known i (Into f vs a) On h e = absurd (omega (arith, e))
known i (Into f vs a) (To k) h e = absurd (omega (arith, e))
known i (Into f vs a) Pause h e = absurd (omega (arith, e))
known i (Into f vs a) (Back v) h e = absurd (omega (arith, e))
known i (Into f vs a) (Into j us b) h e = h ∙ ap Some (same_temp a b (omega (arith, e)))

pub leads_so : (g : Whole) (w : World) (fun : ℕ) (i : TacInstr) (t u : State Store) (next : Next)
    → Means g w fun i t next u → Suits i next
leads_so g w fun i t u next means = by (steady (ops_of g) w g.program (kinds_at g fun) i t)
  where
    apart : (n : ℕ) → n ≡ suc n → ⊥
    apart n q = omega (arith, q)

    by : Comes (Suits i) (effect (ops_of g) w g.program (kinds_at g fun) i t) → Suits i next
    by (Gives x v q e) = known i x next q (ap told (sym (e (telling number)) ∙ means (telling number)))
    by (Stops z e) =
        absurd (apart 0 (ap told (sym (means (telling (λ n. 0))) ∙ e (telling (λ n. 0))
        ∙ sym (e (telling (λ n. 1))) ∙ means (telling (λ n. 1)))))
