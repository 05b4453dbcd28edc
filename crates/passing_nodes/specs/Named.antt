-- The name of a call.
use Rattle.std.specs.Prelude.{◌≡◌, ℕ, Bool, ◌&&◌, ◌==◌, if◌then◌else◌, Option, Some, None}
use Rattle.std.specs.Map.{lookup}
use Rattle.std.specs.Option.{option_or}
use Rattle.ck_base.specs.declared.positions.Pos.{Pos}
use Rattle.ck_base.specs.declared.positions.Span.{Span}
use Rattle.c_tree.specs.Passed.{same_place}
use Rattle.passing_nodes.specs.declared.names.Names.{Names}
use Rattle.passing_nodes.specs.Places.{first_name}

abbrev pub same_pair : ℕ × ℕ → ℕ × ℕ → Bool
same_pair p q = p.0 == q.0 && p.1 == q.1

-- the name at a place among those that did not come in order
abbrev pub other_at : Names → Pos → Option Span
other_at m p = lookup (same_pair (p.line, p.col)) m.others.entries

-- the name that is known of the call at a place
abbrev pub known_at : Names → Pos → Option Span
known_at m p = option_or (first_name m.ascending.items p) (other_at m p)

abbrev pub name_or : Option Span → Span
name_or None = record { start = 0; end = 0 }
name_or (Some s) = s

abbrev pub name_in : Names → Pos → Span
name_in m p = name_or (known_at m p)

-- one more is known, unless one is known at its place
pub record AddsName (old new : Names) (p : Pos) (s : Span) : Type 0 where
  pub are : (q : Pos) → known_at new q ≡ option_or (known_at old q) (if same_place p q then Some s else None)
