-- What a compound assignment does, where what was at its place is known.
use Rattle.std.specs.Prelude.{Bool, Result, if◌then◌else◌}
use Rattle.ck_base.specs.declared.positions.Pos.{Pos}
use Rattle.obj_mem.specs.Values.{Value}
use Rattle.obj_mem.specs.declared.ending.Fault.{Fault}
use Rattle.cheri_c_sem.specs.Kinds.{Kind}
use Rattle.cheri_c_sem.specs.Meaning.{Place, operate_by}
use Rattle.cheri_c_sem.specs.Operations.{Operations, convert_by, on_ok}
use Rattle.cheri_c_sem.specs.Tree.{Operation}
use Rattle.mean_steps.specs.Machine.{no_world}
use Rattle.mean_steps.specs.Parts.{◌>>=◌, ◌>>◌, Part, ask, give, store}

module _ {M : Type 0} (ops : Operations M) where
  -- what goes to the place: its value, converted, the operation on it and a value, and the result converted back
  abbrev pub changed_by : M → Operation → (place computed : Kind) → Value → Value → Result Value Fault
  changed_by m op place computed x y =
      on_ok ops (λ v. on_ok ops (λ r. convert_by ops m computed place r) (operate_by ops no_world op m v y))
      (convert_by ops m place computed x)

  abbrev pub changes : Pos → Operation → (place computed : Kind) → (old : Bool) → Place → Value → Value → Part M Value
  changes p op place computed old to x y = do
    v ← ask p (λ m. convert_by ops m place computed x)
    r ← ask p (λ m. operate_by ops no_world op m v y)
    z ← ask p (λ m. convert_by ops m computed place r)
    store ops place to z
    give (if old then x else z)
