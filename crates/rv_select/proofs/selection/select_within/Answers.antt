use Rattle.std.specs.Prelude.{Result, Ok, Err, IfOk}
use Rattle.std.proofs.lemmas.Bool.{true≢false}
use Rattle.rv_select.proofs.selection.select_within.Goals as goal

if_ok : {V E : Type 0} (r : Result V E) (P Q : V → Type 0) → ((v : V) → P v → Q v) → IfOk r P → IfOk r Q
if_ok (Ok v) P Q f h = f v h
if_ok (Err e) P Q f h = h

-- of far calls nothing is asked
pub returns-clause-selected : goal.returns-clause-selected
returns-clause-selected c =
    if_ok c.text-2.result _ _
    (λ items is small reaches all. is (λ far. absurd (true≢false far)) small reaches all) c.text-2.ensures.selected
