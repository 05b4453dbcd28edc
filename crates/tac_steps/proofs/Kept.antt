-- What an instruction of the machine does is what it means, and takes no turn.
use Rattle.std.proofs.Common.{◌≡◌, ℕ, zero, suc, ◌+◌, ◌/◌, Bool, true, false, List, Option, Some, None, Result, Ok, Err}
use Rattle.std.proofs.Common.{refl, ◌∙◌}
use Rattle.std.specs.Prelude.{slice_index_or}
use Rattle.ck_base.specs.World.{World}
use Rattle.ck_base.specs.declared.positions.Pos.{Pos}
use Rattle.obj_mem.specs.Values as value
use Rattle.obj_mem.specs.Values.{Value, Int, Live, Fun, Raw}
use Rattle.obj_mem.specs.declared.ending.Fault.{Fault}
use Rattle.obj_mem.specs.declared.ending.UnitFault.{UnitFault}
use Rattle.obj_mem.specs.declared.ending.UnitFault.TheVariants as half
use Rattle.cheri_c_sem.specs.Kinds.{Kind, bytes_of, null_at, nothing, number_of, read_as, truth}
use Rattle.cheri_c_sem.specs.Meaning.{Place, In, At, position_of, capability_of, further, first_of}
use Rattle.cheri_c_sem.specs.Meaning as meaning
use Rattle.cheri_c_sem.specs.Operations.{Operations, compare_by, convert_by, int_by, is_true}
use Rattle.cheri_c_sem.specs.Steps.{State, Fate, Then, ◌>>=◌, ◌>>◌, fault_end, unit_end}
use Rattle.cheri_c_sem.specs.Steps as steps
use Rattle.c_tree.specs.declared.typed.Typed.{Typed}
use Rattle.mean_steps.specs.Parts.{Now, Came, On as Gives, Over, Part, next_of}
use Rattle.mean_steps.specs.Parts as part
use Rattle.mean_steps.specs.Machine.{no_world}
use Rattle.mean_steps.proofs.Alike.{Alike, alike_give, alike_bind, alike_then, alike_unit_answer, alike_ask}
use Rattle.mean_steps.proofs.Steady.{IsOwn, own_fault}
use Rattle.tac_ir.specs.Effects.{kind_of, kind_at, work_of, no_position, Next, On, To, Pause, Back, Into}
use Rattle.tac_ir.specs.Effects as effects
use Rattle.tac_ir.specs.declared.code.Amount.{Amount}
use Rattle.tac_ir.specs.declared.code.Amount.TheVariants as amount
use Rattle.tac_ir.specs.declared.code.LibOp.TheVariants as lib
use Rattle.tac_ir.specs.declared.code.TacInstr.{TacInstr}
use Rattle.tac_ir.specs.declared.code.TacInstr.TheVariants as instr
use Rattle.tac_ir.specs.declared.code.TacKind.{TacKind}
use Rattle.tac_ir.specs.declared.code.TacKind.TheVariants as kind
use Rattle.tac_steps.specs.Machine as machine
use Rattle.tac_steps.specs.Machine.{value_in, effect}

-- as many turns are left, and no ending is a fault of the outside
abbrev pub Stays : {M A : Type 0} → ℕ → Came M A → Type 0
Stays left (Gives x n) = n.left ≡ left
Stays left (Over e) = IsOwn e

-- a word of the meaning does what a part does, and this takes no turn
pub record Kept {M A : Type 0} (c : Then M A) (q : Part M A) : Type 0 where
  pub alike : Alike c q
  pub stays : (n : Now M) → Stays n.left (q n)

own_unit : (f : UnitFault) (from to : Pos) → IsOwn (unit_end f from to)
own_unit (half.Load f) from to = own_fault f from
own_unit (half.Store f) from to = own_fault f to

module _ {M : Type 0} where
  kept_give : {A : Type 0} (x : A) → Kept {M = M} (steps.give x) (part.give x)
  kept_give x = record { alike = alike_give x; stays = λ n. refl }

  stays_on : {B : Type 0} (left left' : ℕ) (r : Came M B) → left' ≡ left → Stays left' r → Stays left r
  stays_on left left' (Gives x n) e h = h ∙ e
  stays_on left left' (Over x) e h = h

  stays_next : {A B : Type 0} (left : ℕ) (r : Came M A) (g : A → Part M B) → Stays left r →
      ((x : A) (n : Now M) → Stays n.left (g x n)) → Stays left (next_of r g)
  stays_next left (Gives x n) g h i = stays_on left n.left (g x n) h (i x n)
  stays_next left (Over e) g h i = h

  kept_bind : {A B : Type 0} (c : Then M A) (q : Part M A) (f : A → Then M B) (g : A → Part M B) → Kept c q →
      ((x : A) → Kept (f x) (g x)) → Kept (c >>= f) (λ n. next_of (q n) g)
  kept_bind c q f g h i = record {
    alike = alike_bind c q f g h.alike (λ x. (i x).alike);
    stays = λ n. stays_next n.left (q n) g (h.stays n) (λ x. (i x).stays);
  }

  kept_then : {A B : Type 0} (c : Then M A) (q : Part M A) (f : Then M B) (g : Part M B) → Kept c q → Kept f g →
      Kept (c >> f) (λ n. next_of (q n) (λ _. g))
  kept_then c q f g h i = record {
    alike = alike_then c q f g h.alike i.alike;
    stays = λ n. stays_next n.left (q n) (λ _. g) (h.stays n) (λ x. i.stays);
  }

  stays_answer : {A : Type 0} (pos : Pos) (r : Result A Fault) (n : Now M) → Stays n.left (part.answer pos r n)
  stays_answer pos (Ok x) n = refl
  stays_answer pos (Err f) n = own_fault f pos

  stays_unit : {A : Type 0} (from to : Pos) (r : Result A UnitFault) (n : Now M) →
      Stays n.left (part.unit_answer from to r n)
  stays_unit from to (Ok x) n = refl
  stays_unit from to (Err f) n = own_unit f from to

  kept_ask : {A : Type 0} (pos : Pos) (f : M → Result A Fault) → Kept (steps.ask pos f) (part.ask pos f)
  kept_ask pos f = record { alike = alike_ask pos f; stays = λ n. stays_answer pos (f n.mem) n }

  kept_set_memory : (m : M) → Kept (steps.set_memory m) (part.set_memory m)
  kept_set_memory m = record { alike = record { at = λ n d k. refl }; stays = λ n. refl }

  -- ---- temps

  kept_temp : (t : ℕ) → Kept {M = M} (effects.temp t) (machine.temp t)
  kept_temp t = record { alike = record { at = λ n d k. refl }; stays = λ n. refl }

  kept_temps : (ts : List ℕ) → Kept {M = M} (effects.temps ts) (machine.temps ts)
  kept_temps ts = record { alike = record { at = λ n d k. refl }; stays = λ n. refl }

  kept_optional : (t : Option ℕ) → Kept {M = M} (effects.optional t) (machine.optional t)
  kept_optional None = kept_give nothing
  kept_optional (Some t) = kept_temp t

  kept_amount : (a : Amount) → Kept {M = M} (effects.amount_of a) (machine.amount_of a)
  kept_amount (amount.Number n) = kept_give n
  kept_amount (amount.Temp t) = record { alike = record { at = λ n d k. refl }; stays = λ n. refl }

  kept_set : (t : ℕ) (v : Value) → Kept {M = M} (effects.set t v) (machine.set t v)
  kept_set t v = record { alike = record { at = λ n d k. refl }; stays = λ n. refl }

  kept_set_optional : (t : Option ℕ) (v : Value) → Kept {M = M} (effects.set_optional t v) (machine.set_optional t v)
  kept_set_optional None v = kept_give On
  kept_set_optional (Some t) v = kept_set t v

-- ---- operations

module _ {M : Type 0} (ops : Operations M) (w : World) where
  kept_load : (k : Kind) (pos : Pos) (v : Value) → Kept (meaning.load ops w k (At pos v)) (part.load ops k (At pos v))
  kept_load k pos v = kept_bind _ _ _ _ (kept_ask pos (λ m. ops.load m v (bytes_of k))) (λ r. kept_give (read_as k r))

  kept_store : (k : Kind) (pos : Pos) (to v : Value) →
      Kept (meaning.store ops w k (At pos to) v) (part.store ops k (At pos to) v)
  kept_store k pos to v = kept_bind _ _ _ _ (kept_ask pos (λ m. ops.store m to (bytes_of k) v)) (λ m. kept_set_memory m)

  kept_unit : (unit at : ℕ) (from to : Place) →
      Kept (λ s. steps.unit_answer (position_of from) (position_of to)
      (ops.copy_unit s.mem (further (capability_of from) at) (further (capability_of to) at) unit) s)
      (λ n. part.unit_answer (position_of from) (position_of to)
      (ops.copy_unit n.mem (further (capability_of from) at) (further (capability_of to) at) unit) n)
  kept_unit unit at from to = record {
    alike = record {
      at = λ n d k. (alike_unit_answer (position_of from) (position_of to)
          (ops.copy_unit n.mem (further (capability_of from) at) (further (capability_of to) at) unit)).at n d k;
    };
    stays = λ n. stays_unit (position_of from) (position_of to)
        (ops.copy_unit n.mem (further (capability_of from) at) (further (capability_of to) at) unit) n;
  }

  kept_copy_units : (j unit at : ℕ) (from to : Place) →
      Kept (meaning.copy_units ops w j unit at from to) (part.copy_units ops j unit at from to)
  kept_copy_units zero unit at from to = kept_give tt
  kept_copy_units (suc j) unit at from to =
      kept_bind _ _ _ _ (kept_unit unit at from to)
      (λ m. kept_then _ _ _ _ (kept_set_memory m) (kept_copy_units j unit (at + unit) from to))

  kept_test : (pos : Pos) (k : Kind) (v : Value) → Kept (meaning.test ops w pos k v) (part.test ops pos k v)
  kept_test pos k v = kept_ask pos (λ m. is_true ops m k v)

  kept_compatible : (pos : Pos) (f : ℕ) (fits : Bool) →
      Kept (meaning.compatible ops w pos f fits) (part.compatible ops pos f fits)
  kept_compatible pos f true = kept_give f
  kept_compatible pos f false = record { alike = record { at = λ n d k. refl }; stays = λ n. ((λ h. cc), (λ h. cc)) }

  kept_called : (pos : Pos) (fits : List Bool) (v : Value) →
      Kept (meaning.called ops w pos fits v) (part.called ops pos fits v)
  kept_called pos fits (Fun f) = kept_compatible pos f (slice_index_or fits f false)
  kept_called pos fits (Live object low high offset permissions) =
      record { alike = record { at = λ n d k. refl }; stays = λ n. ((λ h. cc), (λ h. cc)) }
  kept_called pos fits (Raw address upper) =
      record { alike = record { at = λ n d k. refl }; stays = λ n. ((λ h. cc), (λ h. cc)) }
  kept_called pos fits (Int j) = record { alike = record { at = λ n d k. refl }; stays = λ n. ((λ h. cc), (λ h. cc)) }

  kept_allocate : (pos : Pos) (j : ℕ) → Kept (meaning.allocate ops w pos j) (part.allocate ops pos j)
  kept_allocate pos j = kept_bind _ _ _ _ (kept_ask pos (λ m. ops.allocate m j))
      (λ r. kept_then _ _ _ _ (kept_set_memory r.1) (kept_give r.0))

  -- ---- instructions

  -- neither of the two that have to do with the outside
  abbrev pub IsInside : TacInstr → Type 0
  IsInside (instr.Lib lib.PutChar to args) = ⊥
  IsInside (instr.Lib lib.GetChar to args) = ⊥
  IsInside i = Unit {0}

  module _ (p : Typed) where
    kept_give_way : (when c : Bool) (l : ℕ) →
        Kept {M = M} (steps.give (effects.way ops w p (effects.same ops w p when c) l))
        (part.give (effects.way ops no_world p (effects.same ops no_world p when c) l))
    kept_give_way true true l = kept_give (To l)
    kept_give_way true false l = kept_give On
    kept_give_way false true l = kept_give On
    kept_give_way false false l = kept_give (To l)

    kept_global : (to number : ℕ) (literal : Bool) →
        Kept (λ s. effects.set to (effects.global_pointer ops w p s.mem number literal) s)
        (λ n. machine.set to (machine.global_pointer ops p n.mem number literal) n)
    kept_global to number false = record { alike = record { at = λ n d k. refl }; stays = λ n. refl }
    kept_global to number true = record { alike = record { at = λ n d k. refl }; stays = λ n. refl }

    -- what an instruction does
    pub kept_effect : (kinds : List TacKind) (i : TacInstr) → IsInside i →
        Kept (effects.effect ops w p kinds i) (effect ops p kinds i)
    kept_effect kinds (instr.Const to (kind.Int k) v) h = kept_set to (value.Int v)
    kept_effect kinds (instr.Const to (kind.Cap signed) v) h = kept_set to (null_at v)
    kept_effect kinds (instr.Copy to from) h = kept_bind _ _ _ _ (kept_temp from) (λ v. kept_set to v)
    kept_effect kinds (instr.Int op k to a b) h =
        kept_bind _ _ _ _ (kept_temp a) (λ x. kept_bind _ _ _ _ (kept_temp b)
        (λ y. kept_bind _ _ _ _ (kept_ask no_position (λ m. int_by ops m op k (kind_at kinds b) x y))
        (λ v. kept_set to v)))
    kept_effect kinds (instr.Cmp op k to a b) h =
        kept_bind _ _ _ _ (kept_temp a) (λ x. kept_bind _ _ _ _ (kept_temp b)
        (λ y. kept_bind _ _ _ _ (kept_ask no_position (λ m. compare_by ops m op (kind_of k) x y))
        (λ r. kept_set to (truth r))))
    kept_effect kinds (instr.Convert to from old new) h =
        kept_bind _ _ _ _ (kept_temp from) (λ x.
        kept_bind _ _ _ _ (kept_ask no_position (λ m. convert_by ops m (kind_of old) (kind_of new) x))
        (λ v. kept_set to v))
    kept_effect kinds (instr.Cap op to a b) h =
        kept_bind _ _ _ _ (kept_temp a) (λ x. kept_bind _ _ _ _ (kept_optional b)
        (λ y. kept_bind _ _ _ _ (kept_ask no_position (λ m. ops.work m (work_of op) x y)) (λ v. kept_set to v)))
    kept_effect kinds (instr.Offset to base by) h =
        kept_bind _ _ _ _ (kept_temp base) (λ x.
        kept_bind _ _ _ _ (kept_amount by) (λ n.
        kept_bind _ _ _ _ (kept_ask no_position (λ m. ops.offset m x n)) (λ v. kept_set to v)))
    kept_effect kinds (instr.Narrow to base length exact) h =
        kept_bind _ _ _ _ (kept_temp base) (λ x.
        kept_bind _ _ _ _ (kept_amount length)
        (λ n. kept_bind _ _ _ _ (kept_ask no_position (λ m. ops.narrow m x n exact)) (λ v. kept_set to v)))
    kept_effect kinds (instr.Load to from k pos) h =
        kept_bind _ _ _ _ (kept_temp from) (λ x. kept_bind _ _ _ _ (kept_load (kind_of k) pos x) (λ v. kept_set to v))
    kept_effect kinds (instr.Store at v k pos) h =
        kept_bind _ _ _ _ (kept_temp at) (λ x. kept_bind _ _ _ _ (kept_temp v)
        (λ y. kept_then _ _ _ _ (kept_store (kind_of k) pos x y) (kept_give On)))
    kept_effect kinds (instr.Local to var) h = record { alike = record { at = λ n d k. refl }; stays = λ n. refl }
    kept_effect kinds (instr.Global to number literal) h = kept_global to number literal
    kept_effect kinds (instr.Function to fun) h = kept_set to (value.Fun fun)
    kept_effect kinds (instr.Zero var) h = record { alike = record { at = λ n d k. refl }; stays = λ n. refl }
    kept_effect kinds (instr.CopyUnits from to bytes unit from_pos to_pos) h =
        kept_bind _ _ _ _ (kept_temp from) (λ x.
        kept_bind _ _ _ _ (kept_temp to) (λ y.
        kept_then _ _ _ _ (kept_copy_units (bytes / unit) unit 0 (At from_pos x) (At to_pos y)) (kept_give On)))
    kept_effect kinds (instr.Label l) h = kept_give On
    kept_effect kinds (instr.Jump l) h = kept_give (To l)
    kept_effect kinds (instr.Branch on when l) h =
        kept_bind _ _ _ _ (kept_temp on) (λ x. kept_bind _ _ _ _ (kept_test no_position (kind_at kinds on) x)
        (λ c. kept_give_way when c l))
    kept_effect kinds (instr.Call to fun args) h =
        kept_bind _ _ _ _ (kept_temps args) (λ vs. kept_give (Into fun vs to))
    kept_effect kinds (instr.CallValue to v of args pos) h =
        kept_bind _ _ _ _ (kept_temp v) (λ x. kept_bind _ _ _ _ (kept_temps args)
        (λ vs. kept_bind _ _ _ _ (kept_called pos (effects.fits ops no_world p of) x)
        (λ f. kept_give (Into f vs to))))
    kept_effect kinds (instr.Lib lib.PutChar to args) h = absurd h
    kept_effect kinds (instr.Lib lib.GetChar to args) h = absurd h
    kept_effect kinds (instr.Lib lib.Malloc to args) h =
        kept_bind _ _ _ _ (kept_temps args) (λ vs.
        kept_bind _ _ _ _ (kept_allocate no_position (number_of (first_of vs))) (λ v. kept_set_optional to v))
    kept_effect kinds (instr.Lib lib.Exit to args) h =
        record { alike = record { at = λ n d k. refl }; stays = λ n. ((λ h. cc), (λ h. cc)) }
    kept_effect kinds instr.Turn h = kept_give Pause
    kept_effect kinds (instr.Return v) h = kept_bind _ _ _ _ (kept_optional v) (λ x. kept_give (Back x))
