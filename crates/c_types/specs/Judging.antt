-- What a test of a declaration gives.
use Rattle.std.specs.Prelude.{◌≡◌, Bool, Result, Ok, Err}
use Rattle.ck_base.specs.declared.positions.Pos.{Pos}
use Rattle.ck_base.specs.declared.refusal.Refusal.{Refusal}
use Rattle.ck_base.specs.declared.refusal.Refusal.TheVariants.{Code, NoMemory}
use Rattle.c_tree.specs.Types.{Ty}
use Rattle.c_tree.specs.Scopes.{State, Doing, need, ◌>>◌}
use Rattle.c_tree.specs.Declarators.{Formed, judge}
use Rattle.c_types.specs.declared.entries.Faults.{Faults}

-- a step that looks at no state passes, or it refuses
abbrev pub IsJudged : Doing Unit → Result Unit Refusal → Type 0
IsJudged d (Ok x) = (s : State) → d s ≡ Ok (tt, s)
IsJudged d (Err (Code code place)) = (s : State) → d s ≡ Err (record { code = code; place = place })
IsJudged d (Err NoMemory) = ⊥

-- a type and the rules that it breaks
abbrev pub formed_with : Ty → Faults → Formed
formed_with of f = record { of = of; lacks = f.lacks; misfits = f.misfits; too_large = f.too_large }

-- the tests on a declaration: whether it agrees with what its name denotes, and the rules on its type
abbrev pub admits : Bool → Formed → (lacks misfits : Bool) → Pos → Doing Unit
admits fits f lacks misfits place = need fits 131 place >> judge f lacks misfits place
