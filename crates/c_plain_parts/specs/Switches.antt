-- The statement that a `switch` is, and one more label of it (C11 6.8.4.2).
use Rattle.std.specs.Prelude.{◌≡◌, ℕ, true, false, List, [], ◌∷◌, ◌++◌, length, map, Option, Result, Ok, Err}
use Rattle.ck_base.specs.declared.positions.Pos.{Pos}
use Rattle.ck_base.specs.declared.refusal.Refusal.{Refusal}
use Rattle.ck_base.specs.declared.refusal.Refusal.TheVariants.{Code, NoMemory}
use Rattle.c_tree.specs.declared.typed.StmtKind.{StmtKind}
use Rattle.c_tree.specs.declared.typed.StmtKind.TheVariants as stmts
use Rattle.c_tree.specs.declared.typed.SwitchLabel.{SwitchLabel}
use Rattle.c_tree.specs.Statements.{has_label}
use Rattle.c_tree.specs.Views.{label_of}
use Rattle.c_plain_parts.specs.declared.switches.Cases.{Cases}

-- a label of the program, from its value and the number of statements before it
abbrev pub switch_label : Option ℕ × ℕ → SwitchLabel
switch_label p = record { value = p.0; before = p.1 }

-- the labels so far, in their order
abbrev pub labels_in : Cases → List SwitchLabel
labels_in x = map switch_label x.labels.entries

-- the answer of a label: it is added, or refused where an earlier one is like it
abbrev pub AddsLabel : Cases → Option ℕ → Pos → Result Cases Refusal → Type 0
AddsLabel cases v p (Ok new) =
    (has_label v (map label_of (labels_in cases)) ≡ false) × (new.items ≡ cases.items) ×
    (labels_in new ≡ labels_in cases ++ record { value = v; before = length cases.items.actions.items } ∷ [])
AddsLabel cases v p (Err (Code code place)) =
    (has_label v (map label_of (labels_in cases)) ≡ true) × (code ≡ 131) × (place ≡ p)
AddsLabel cases v p (Err NoMemory) = Unit {0}

-- the statement that a `switch` is
abbrev pub switch_of : ℕ → Cases → StmtKind
switch_of on cases = stmts.Switch on cases.items.vars.items (labels_in cases) cases.items.actions.items
