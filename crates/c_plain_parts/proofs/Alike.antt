-- Whether a label is among those before it, and one more behind them.
use Rattle.std.proofs.Common.{◌≡◌, ℕ, Bool, true, false, List, [], ◌∷◌, ◌++◌, map, Option, None, Some, refl, sym, ap}
use Rattle.std.proofs.Common.{◌∙◌, is_some, nat_eq, cond, if◌then◌else◌, true≢false}
use Rattle.std.specs.Prelude.{◌||◌}
use Rattle.std.specs.Map.{lookup}
use Rattle.std.specs.Option.{option_eq}
use Rattle.c_tree.specs.declared.typed.SwitchLabel.{SwitchLabel}
use Rattle.c_tree.specs.Statements.{has_label, same_value}
use Rattle.c_tree.specs.Views.{label_of}
use Rattle.indexmap.specs.IndexMap.{insert_entry}
use Rattle.c_plain_parts.specs.Switches.{switch_label}

same_is : (a b : Option ℕ) → same_value a b ≡ option_eq nat_eq a b
same_is None None = refl
same_is None (Some b) = refl
same_is (Some a) None = refl
same_is (Some a) (Some b) = refl

found_is : (b : Bool) (n : ℕ) (o : Option ℕ) → (b || is_some o) ≡ is_some (cond b (Some n) o)
found_is true n o = refl
found_is false n o = refl

pub has_found : (v : Option ℕ) (es : List (Option ℕ × ℕ)) →
    has_label v (map label_of (map switch_label es)) ≡ is_some (lookup (option_eq nat_eq v) es)
has_found v [] = refl
has_found v (e ∷ es) =
    ap (λ b. b || has_label v (map label_of (map switch_label es))) (same_is v e.0)
    ∙ ap (λ b. option_eq nat_eq v e.0 || b) (has_found v es)
    ∙ found_is (option_eq nat_eq v e.0) e.1 (lookup (option_eq nat_eq v) es)

-- a label that no earlier one is like goes last
pub added : (v : Option ℕ) (n : ℕ) (es : List (Option ℕ × ℕ)) →
    has_label v (map label_of (map switch_label es)) ≡ false →
    map switch_label (insert_entry (option_eq nat_eq) es v n) ≡ map switch_label es ++ switch_label (v, n) ∷ []
added v n [] h = refl
added v n (e ∷ es) h = by (option_eq nat_eq v e.0)
    (sym (ap (λ b. b || has_label v (map label_of (map switch_label es))) (same_is v e.0)) ∙ h) (added v n es)
  where
    by : (b : Bool) → (b || has_label v (map label_of (map switch_label es))) ≡ false →
        (has_label v (map label_of (map switch_label es)) ≡ false →
        map switch_label (insert_entry (option_eq nat_eq) es v n) ≡ map switch_label es ++ switch_label (v, n) ∷ []) →
        map switch_label (if b then (e.0, n) ∷ es else e ∷ insert_entry (option_eq nat_eq) es v n)
        ≡ map switch_label (e ∷ es) ++ switch_label (v, n) ∷ []
    by true g rest = absurd (true≢false g)
    by false g rest = ap (λ (ls : List SwitchLabel). switch_label e ∷ ls) (rest g)
