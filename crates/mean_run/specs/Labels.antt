-- Where a `switch` goes on, and what an object is given.
use Rattle.std.specs.Prelude.{◌≡◌, ℕ, Bool, false, List, ◌∷◌, map, Option, Some, None, Result, Ok, Err}
use Rattle.std.specs.Prelude.{if◌then◌else◌}
use Rattle.ck_base.specs.declared.positions.Pos.{Pos}
use Rattle.ck_int.specs.declared.kinds.CmpOp.TheVariants.{Eq}
use Rattle.c_tree.specs.Layout.{bare}
use Rattle.c_tree.specs.declared.typed.SwitchLabel.{SwitchLabel}
use Rattle.c_tree.specs.declared.typed.Typed.{Typed}
use Rattle.obj_mem.specs.Values.{Value}
use Rattle.cheri_c_sem.specs.Kinds.{Kind}
use Rattle.cheri_c_sem.specs.Modes.{Store}
use Rattle.cheri_c_sem.specs.Operations.{Operations, compare_by}
use Rattle.cheri_c_sem.specs.Programs.{label_of}
use Rattle.cheri_c_sem.specs.Statements.{label_value}
use Rattle.cheri_c_sem.specs.Steps.{fault_end}
use Rattle.cheri_c_sem.specs.Tree.{Ex, Label, St, Fill, Init}
use Rattle.cheri_c_sem.specs.Types.{align_in, is_record, kind_of, size_in, unit_of}
use Rattle.obj_mem.specs.declared.ending.Fault.{Fault}
use Rattle.mean_work.specs.declared.work.Stop.{Stop}
use Rattle.mean_work.specs.declared.work.Stop.TheVariants as stop
use Rattle.mean_work.specs.declared.work.Work.{Work}
use Rattle.mean_work.specs.declared.work.Work.TheVariants as work

abbrev pub labels_of : List SwitchLabel → List Label
labels_of ls = map (λ (s : SwitchLabel). label_of s.value s.before) ls

-- what a comparison with a label's value came to; a `default` has none
module _ (ops : Operations Store) (pos : Pos) (k : Kind) (v : Value) (m : Store) where
  abbrev pub IsAt : Option ℕ → Result Bool Stop → Type 0
  IsAt None (Ok b) = b ≡ false
  IsAt None (Err e) = ⊥
  IsAt (Some c) (Ok b) = compare_by ops m Eq k v (label_value k c) ≡ Ok b
  IsAt (Some c) (Err (stop.Ended e)) =
      (f : Fault) × (compare_by ops m Eq k v (label_value k c) ≡ Err f) × (e ≡ fault_end f pos)
  IsAt (Some c) (Err stop.NoMemory) = ⊥

-- the statements from a label on, or none
abbrev pub at_label : (f k : ℕ) → Option ℕ → List Work → List Work
at_label f k None ws = work.Leave f k ∷ ws
at_label f k (Some n) ws = work.Rest f k n ∷ work.SwitchEnd ∷ work.Leave f k ∷ ws

-- an object's part gets a scalar, or a struct or union
abbrev pub object_filled : Typed → Pos → (n offset t : ℕ) → Ex → St
object_filled p pos n offset t e =
    if is_record (bare p.types t) then Fill pos n offset (size_in p.types t) (unit_of (align_in p.types t)) e
    else Init pos n offset (kind_of (bare p.types t)) e
