-- What an instruction does leaves memory and temps sound.
use Rattle.std.proofs.Common.{◌≡◌, ℕ, zero, suc, ◌+◌, ◌/◌, ◌<◌, ◌≤◌, Bool, true, false, List, [], length, map, refl}
use Rattle.std.proofs.Common.{◌∙◌, arith, Option, Some, None, Result, Ok, Err}
use Rattle.std.specs.Prelude.{IfOk, slice_get, slice_index_or}
use Rattle.ck_base.specs.declared.positions.Pos.{Pos}
use Rattle.cap_ops.specs.Permissions.{data_permissions, const_permissions}
use Rattle.c_tree.specs.declared.typed.Typed.{Typed}
use Rattle.obj_mem.specs.declared.ending.Ending.TheVariants as ending
use Rattle.obj_mem.specs.declared.ending.Fault.{Fault}
use Rattle.obj_mem.specs.declared.ending.UnitFault.{UnitFault}
use Rattle.obj_mem.specs.declared.map.Map.{Map}
use Rattle.obj_mem.specs.Objects.{Shape}
use Rattle.obj_mem.specs.Values as value
use Rattle.obj_mem.specs.Values.{Value}
use Rattle.cheri_c_sem.specs.Expressions.{permissions_of}
use Rattle.cheri_c_sem.specs.Kinds.{Kind, nothing, truth, bytes_of, read_as, number_of}
use Rattle.cheri_c_sem.specs.Meaning.{At, first_of, further}
use Rattle.cheri_c_sem.specs.Modes.{Store}
use Rattle.cheri_c_sem.specs.Operations.{Operations, compare_by, convert_by, int_by, is_true}
use Rattle.mean_steps.specs.Machine.{no_world}
use Rattle.mean_steps.specs.Parts.{Now, Came, On as Gives, Over, Part, next_of, give, answer, unit_answer, choose}
use Rattle.mean_steps.specs.Parts.{set_memory, copy_units, called}
use Rattle.tac_ir.specs.Effects.{Next, On, To, Pause, Back, Into, kind_of, kind_at, work_of, no_position}
use Rattle.tac_ir.specs.Effects as effects
use Rattle.tac_ir.specs.declared.code.Amount.{Amount}
use Rattle.tac_ir.specs.declared.code.Amount.TheVariants as amount
use Rattle.tac_ir.specs.declared.code.LibOp.{LibOp}
use Rattle.tac_ir.specs.declared.code.LibOp.TheVariants as lib
use Rattle.tac_ir.specs.declared.code.TacInstr.{TacInstr}
use Rattle.tac_ir.specs.declared.code.TacInstr.TheVariants as instr
use Rattle.tac_ir.specs.declared.code.TacKind.{TacKind}
use Rattle.tac_ir.specs.declared.code.TacKind.TheVariants as kind
use Rattle.tac_steps.specs.Machine.{value_in, amount_of, optional, set, set_optional, effect, global_pointer}
use Rattle.tac_run.specs.Bases.{IsBased, AreBased, Lasts, KeepBases}
use Rattle.tac_run.specs.Moments.{AreValuesBased, AreTempsBased, Names, count_where}
use Rattle.tac_run.proofs.Accesses.{stays}
use Rattle.tac_run.proofs.Objects.{grows_on}
use Rattle.tac_run.proofs.Temps.{held_based, set_based, values_held, truth_based, read_based, temps_later}
use Rattle.tac_run.proofs.Temps.{int_based, convert_based}

-- ---- what a part comes to

pub record Onward (n n' : Now Store) : Type 0 where
  pub lasts : Lasts n.mem n'.mem
  pub temps : AreTempsBased n'.mem.memory.shapes n'.vars
  pub first : n'.first ≡ n.first
  pub frame : n'.frame ≡ n.frame

abbrev pub IsNextBased : List Shape → Next → Type 0
IsNextBased shapes On = Unit {0}
IsNextBased shapes (To l) = Unit {0}
IsNextBased shapes Pause = Unit {0}
IsNextBased shapes (Back v) = IsBased shapes v
IsNextBased shapes (Into f vs to) = AreValuesBased shapes vs

abbrev pub ComesSound : Now Store → Came Store Next → Type 0
ComesSound n (Gives x n') = Onward n n' × IsNextBased n'.mem.memory.shapes x
ComesSound n (Over e) = Unit {0}

abbrev CopiesSound : Now Store → Came Store (Unit {0}) → Type 0
CopiesSound n (Gives x n') = Onward n n'
CopiesSound n (Over e) = Unit {0}

onward_on : (n n' n'' : Now Store) → Onward n n' → Onward n' n'' → Onward n n''
onward_on n n' n'' f g = record {
  lasts = record { based = g.lasts.based; grows = grows_on _ _ _ f.lasts.grows g.lasts.grows };
  temps = g.temps;
  first = g.first ∙ f.first;
  frame = g.frame ∙ f.frame;
}

module _ (m : Map) (ops : Operations Store) (keep : KeepBases m ops) (p : Typed) where
  module _ (n : Now Store) (based : AreBased n.mem.memory) (temps : AreTempsBased n.mem.memory.shapes n.vars) where
    abbrev shapes : List Shape
    shapes = n.mem.memory.shapes

    same : Onward n n
    same = record { lasts = record { based = based; grows = stays shapes }; temps = temps; first = refl; frame = refl }

    of_temp : (t : ℕ) → IsBased shapes (value_in n t)
    of_temp t = held_based shapes n.vars t temps

    sets : (to : ℕ) (v : Value) → IsBased shapes v → ComesSound n (set to v n)
    sets to v h = (
      record {
        lasts = record { based = based; grows = stays shapes };
        temps = set_based shapes n.vars to v temps h;
        first = refl;
        frame = refl;
      },
      tt,
    )

    in_memory : (s : Store) → Lasts n.mem s → Onward n (record n { mem = s })
    in_memory s h = record {
      lasts = h;
      temps = temps_later shapes s.memory.shapes h.grows n.vars temps;
      first = refl;
      frame = refl;
    }

    answers : {A : Type 0} (P : A → Type 0) (pos : Pos) (r : Result A Fault) (f : A → Part Store Next) → IfOk r P →
        ((x : A) → P x → ComesSound n (f x n)) → ComesSound n (next_of (answer pos r n) f)
    answers P pos (Ok x) f h g = g x h
    answers P pos (Err e) f h g = tt

    any : {A : Type 0} (r : Result A Fault) → IfOk r (λ x. Unit {0})
    any (Ok x) = tt
    any (Err e) = tt

    amounts : (by : Amount) (f : ℕ → Part Store Next) → ((k : ℕ) → ComesSound n (f k n)) →
        ComesSound n (next_of (amount_of by n) f)
    amounts (amount.Number k) f g = g k
    amounts (amount.Temp t) f g = g (number_of (value_in n t))

    optionals : (o : Option ℕ) (f : Value → Part Store Next) → ((v : Value) → IsBased shapes v → ComesSound n (f v n)) →
        ComesSound n (next_of (optional o n) f)
    optionals None f g = g nothing tt
    optionals (Some t) f g = g (value_in n t) (of_temp t)

    loads : (to : ℕ) (k : Kind) (pos : Pos) (r : Result Value Fault) → IfOk r (IsBased shapes) →
        ComesSound n (next_of (next_of (answer pos r n) (λ v. give (read_as k v))) (set to))
    loads to k pos (Ok v) h = sets to (read_as k v) (read_based shapes k v h)
    loads to k pos (Err e) h = tt

    stores : (pos : Pos) (r : Result Store Fault) → IfOk r (Lasts n.mem) →
        ComesSound n (next_of (next_of (answer pos r n) set_memory) (λ u. give On))
    stores pos (Ok s) h = (in_memory s h, tt)
    stores pos (Err e) h = tt

    pointers : (to number : ℕ) (literal : Bool) → number < count_where p literal →
        length p.globals + length p.literals ≤ length shapes →
        ComesSound n (set to (global_pointer ops p n.mem number literal) n)
    pointers to number true l room =
        sets to _ (keep.whole n.mem (length p.globals + number) const_permissions based (omega arith))
    pointers to number false l room =
        sets to _ (keep.whole n.mem number (permissions_of p [] (slice_get p.globals number)) based (omega arith))

    ways : (b : Bool) (l : ℕ) → IsNextBased shapes (effects.way ops no_world p b l)
    ways true l = tt
    ways false l = tt

    fitting : (pos : Pos) (f : ℕ) (b : Bool) (vs : List Value) (to : Option ℕ) → AreValuesBased shapes vs
        → ComesSound n (next_of (choose b (give f) (λ n. Over (ending.Outside pos)) n) (λ g. give (Into g vs to)))
    fitting pos f true vs to h = (same, h)
    fitting pos f false vs to h = tt

    calls : (pos : Pos) (fits : List Bool) (v : Value) (vs : List Value) (to : Option ℕ) → AreValuesBased shapes vs →
        ComesSound n (next_of (called ops pos fits v n) (λ g. give (Into g vs to)))
    calls pos fits (value.Fun f) vs to h = fitting pos f (slice_index_or fits f false) vs to h
    calls pos fits (value.Live o low high at q) vs to h = tt
    calls pos fits (value.Raw y z) vs to h = tt
    calls pos fits (value.Int x) vs to h = tt

  -- ---- a struct is copied

  units : (j unit at : ℕ) (fp tp : Pos) (from to : Value) (n : Now Store) → AreBased n.mem.memory →
      AreTempsBased n.mem.memory.shapes n.vars
      → CopiesSound n (copy_units ops j unit at (At fp from) (At tp to) n)
  units zero unit at fp tp from to n based temps = same n based temps
  units (suc j) unit at fp tp from to n based temps =
      go (ops.copy_unit n.mem (further from at) (further to at) unit)
      (keep.copy_unit n.mem (further from at) (further to at) unit based)
      (λ s h. units j unit (at + unit) fp tp from to (record n { mem = s }) h.based (in_memory n based temps s h).temps)
    where
      on : (n' : Now Store) → Onward n n' → (c : Came Store (Unit {0})) → CopiesSound n' c → CopiesSound n c
      on n' h (Gives u n'') g = onward_on n n' n'' h g
      on n' h (Over e) g = tt

      go : (r : Result Store UnitFault) → IfOk r (Lasts n.mem)
          → ((s : Store) → Lasts n.mem s →
          CopiesSound (record n { mem = s }) (copy_units ops j unit (at + unit) (At fp from) (At tp to)
          (record n { mem = s })))
          → CopiesSound n (next_of (unit_answer fp tp r n)
          (λ s. λ n'. next_of (set_memory s n')
          (λ u. copy_units ops j unit (at + unit) (At fp from) (At tp to))))
      go (Ok s) h again = on (record n { mem = s }) (in_memory n based temps s h) _ (again s h)
      go (Err e) h again = tt

  -- ---- an instruction, in a function with so many objects

  module _ (objects : ℕ) (n : Now Store) (based : AreBased n.mem.memory)
      (temps : AreTempsBased n.mem.memory.shapes n.vars)
      (room : n.first + objects ≤ length n.mem.memory.shapes)
      (there : length p.globals + length p.literals ≤ length n.mem.memory.shapes) where
    copied : (c : Came Store (Unit {0})) → CopiesSound n c → ComesSound n (next_of c (λ u. give On))
    copied (Gives u n') h = (h, tt)
    copied (Over e) h = tt

    allocates : (to : Option ℕ) (r : Result (Value × Store) Fault) →
        IfOk r (λ a. IsBased a.1.memory.shapes a.0 × Lasts n.mem a.1)
        → ComesSound n (next_of (next_of (answer no_position r n)
        (λ a. λ n'. next_of (set_memory a.1 n') (λ u. give a.0))) (set_optional to))
    allocates None (Ok a) h = (in_memory n based temps a.1 h.1, tt)
    allocates (Some t) (Ok a) h =
        let old = in_memory n based temps a.1 h.1 in (
          record {
            lasts = h.1;
            temps = set_based a.1.memory.shapes n.vars t a.0 old.temps h.0;
            first = refl;
            frame = refl;
          },
          tt,
        )
    allocates to (Err e) h = tt

    serves : (kinds : List TacKind) (op : LibOp) (to : Option ℕ) (args : List ℕ) →
        ComesSound n (effect ops p kinds (instr.Lib op to args) n)
    serves kinds lib.PutChar None args = (same n based temps, tt)
    serves kinds lib.PutChar (Some t) args = sets n based temps t nothing tt
    serves kinds lib.GetChar None args = (same n based temps, tt)
    serves kinds lib.GetChar (Some t) args = sets n based temps t nothing tt
    serves kinds lib.Malloc to args =
        let size = number_of (first_of (map (value_in n) args)) in
        allocates to (ops.allocate n.mem size) (keep.allocate n.mem size based)
    serves kinds lib.Exit to args = tt

    pub effect_sound : (kinds : List TacKind) (i : TacInstr) → Names p objects i → ComesSound n (effect ops p kinds i n)
    effect_sound kinds (instr.Const to (kind.Int k) v) h = sets n based temps to _ tt
    effect_sound kinds (instr.Const to (kind.Cap s) v) h = sets n based temps to _ tt
    effect_sound kinds (instr.Copy to from) h = sets n based temps to _ (of_temp n based temps from)
    effect_sound kinds (instr.Int op k to a b) h =
        answers n based temps (IsBased n.mem.memory.shapes) no_position
        (int_by ops n.mem op k (kind_at kinds b) (value_in n a) (value_in n b)) (set to)
        (int_based ops n.mem n.mem.memory.shapes op k (kind_at kinds b) (value_in n a) (value_in n b))
        (sets n based temps to)
    effect_sound kinds (instr.Cmp op k to a b) h =
        let r = compare_by ops n.mem op (kind_of k) (value_in n a) (value_in n b) in
        answers n based temps (λ x. Unit {0}) no_position r (λ b. set to (truth b)) (any n based temps r)
        (λ b u. sets n based temps to (truth b) (truth_based n.mem.memory.shapes b))
    effect_sound kinds (instr.Convert to from old new) h =
        answers n based temps (IsBased n.mem.memory.shapes) no_position
        (convert_by ops n.mem (kind_of old) (kind_of new) (value_in n from)) (set to)
        (convert_based ops n.mem n.mem.memory.shapes (kind_of old) (kind_of new) (value_in n from)
        (of_temp n based temps from)) (sets n based temps to)
    effect_sound kinds (instr.Cap op to a b) h =
        optionals n based temps b (λ y. λ n'. next_of
        (answer no_position (ops.work n'.mem (work_of op) (value_in n a) y) n') (set to))
        (λ y g. answers n based temps (IsBased n.mem.memory.shapes) no_position
        (ops.work n.mem (work_of op) (value_in n a) y) (set to)
        (keep.work n.mem (work_of op) (value_in n a) y (of_temp n based temps a)) (sets n based temps to))
    effect_sound kinds (instr.Offset to base by) h =
        amounts n based temps by (λ k. λ n'. next_of (answer no_position (ops.offset n'.mem (value_in n base) k) n')
        (set to))
        (λ k. answers n based temps (IsBased n.mem.memory.shapes) no_position (ops.offset n.mem (value_in n base) k)
        (set to)
        (keep.offset n.mem (value_in n base) k (of_temp n based temps base)) (sets n based temps to))
    effect_sound kinds (instr.Narrow to base long exact) h =
        amounts n based temps long (λ k. λ n'. next_of
        (answer no_position (ops.narrow n'.mem (value_in n base) k exact) n') (set to))
        (λ k. answers n based temps (IsBased n.mem.memory.shapes) no_position
        (ops.narrow n.mem (value_in n base) k exact) (set to)
        (keep.narrow n.mem (value_in n base) k exact (of_temp n based temps base)) (sets n based temps to))
    effect_sound kinds (instr.Load to from k pos) h =
        loads n based temps to (kind_of k) pos (ops.load n.mem (value_in n from) (bytes_of (kind_of k)))
        (keep.load n.mem (value_in n from) (bytes_of (kind_of k)) based)
    effect_sound kinds (instr.Store at v k pos) h =
        stores n based temps pos (ops.store n.mem (value_in n at) (bytes_of (kind_of k)) (value_in n v))
        (keep.store n.mem (value_in n at) (value_in n v) (bytes_of (kind_of k)) based (of_temp n based temps v))
    effect_sound kinds (instr.Local to var) h =
        sets n based temps to _ (keep.whole n.mem (n.first + var) data_permissions based (omega arith))
    effect_sound kinds (instr.Global to number literal) h = pointers n based temps to number literal h there
    effect_sound kinds (instr.Function to f) h = sets n based temps to _ tt
    effect_sound kinds (instr.Zero var) h =
        (in_memory n based temps (ops.zero n.mem (n.first + var)) (keep.zero n.mem (n.first + var) based), tt)
    effect_sound kinds (instr.CopyUnits from to bytes unit fp tp) h =
        copied (copy_units ops (bytes / unit) unit 0 (At fp (value_in n from)) (At tp (value_in n to)) n)
        (units (bytes / unit) unit 0 fp tp (value_in n from) (value_in n to) n based temps)
    effect_sound kinds (instr.Label l) h = (same n based temps, tt)
    effect_sound kinds (instr.Jump l) h = (same n based temps, tt)
    effect_sound kinds (instr.Branch on when l) h =
        let r = is_true ops n.mem (kind_at kinds on) (value_in n on) in
        answers n based temps (λ x. Unit {0}) no_position r
        (λ c. give (effects.way ops no_world p (effects.same ops no_world p when c) l)) (any n based temps r)
        (λ c u. (same n based temps, ways n based temps (effects.same ops no_world p when c) l))
    effect_sound kinds (instr.Call to f args) h = (same n based temps, values_held n.mem.memory.shapes n args temps)
    effect_sound kinds (instr.CallValue to v of args pos) h =
        calls n based temps pos (effects.fits ops no_world p of) (value_in n v) (map (value_in n) args) to
        (values_held n.mem.memory.shapes n args temps)
    effect_sound kinds (instr.Lib op to args) h = serves kinds op to args
    effect_sound kinds instr.Turn h = (same n based temps, tt)
    effect_sound kinds (instr.Return v) h =
        optionals n based temps v (λ x. give (Back x)) (λ x g. (same n based temps, g))
