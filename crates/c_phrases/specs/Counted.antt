-- How often texts stand in a list.
use Rattle.std.specs.Prelude.{◌≡◌, ℕ, ◌<◌, ◌≤◌, List, length, count_by, bytes_eq}
use Rattle.std.specs.Borrow.{Bor}
use Rattle.std.specs.Map.{lookup}
use Rattle.std.specs.Option.{unwrap_or}
use Rattle.indexmap.specs.IndexMap.{spare}
use Rattle.c_phrases.specs.declared.counts.Counts.{Counts}

-- how often a text was counted
abbrev pub count_of : Counts → List ℕ → ℕ
count_of counts text = unwrap_or (lookup (λ k. bytes_eq text k.now) counts.table.entries) 0

-- one more text is counted with no further memory
abbrev pub HasRoom : Counts → Type 0
HasRoom counts = 0 < spare counts.table

-- each text was counted as often as it stands among the names
pub record Counted (counts : Counts) (names : List (Bor (List ℕ))) : Type 0 where
  pub each : (text : List ℕ) → count_of counts text ≡ count_by (λ name. bytes_eq name.now text) names

-- the names are counted, and each text that stands among them is no shorter and no longer than one of them was
pub record IsCounted (counts : Counts) (shortest longest : ℕ) (names : List (Bor (List ℕ))) : Type 0 where
  pub counted : Counted counts names
  pub lengths : (text : List ℕ) → 0 < count_of counts text → (shortest ≤ length text) × (length text ≤ longest)
