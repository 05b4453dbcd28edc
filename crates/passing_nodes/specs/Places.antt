-- Names in the order of their places.
use Rattle.std.specs.Prelude.{◌≡◌, ℕ, ◌<◌, Bool, true, ◌==◌, if◌then◌else◌, List, [], ◌∷◌, length, slice_index_or}
use Rattle.std.specs.Prelude.{Option, Some, None, nat_lt}
use Rattle.ck_base.specs.declared.positions.Pos.{Pos}
use Rattle.ck_base.specs.declared.positions.Span.{Span}
use Rattle.c_tree.specs.Passed.{same_place}
use Rattle.passing_nodes.specs.declared.names.Name.{Name}

-- a place comes before another one: on a line before, or on the same line in a column before
abbrev pub is_before : Pos → Pos → Bool
is_before p q = (if p.line == q.line then nat_lt p.col q.col else nat_lt p.line q.line)

-- each name stands before those behind it
abbrev pub IsAscending : List Name → Type 0
IsAscending ns = (i j : ℕ) (d : Name) → i < j → j < length ns →
    is_before (slice_index_or ns i d).pos (slice_index_or ns j d).pos ≡ true

-- each name stands before a place
abbrev pub IsBehind : List Name → Pos → Type 0
IsBehind ns p = (i : ℕ) (d : Name) → i < length ns → is_before (slice_index_or ns i d).pos p ≡ true

-- the first name at a place
abbrev pub first_name : List Name → Pos → Option Span
first_name [] p = None
first_name (n ∷ ns) p = (if same_place n.pos p then Some n.span else first_name ns p)
