-- Which function is `main`.
use Rattle.std.specs.Prelude.{◌≡◌, ℕ, true, false, Option, Some, None}
use Rattle.std.specs.List.{position_or_len}
use Rattle.c_tree.specs.Scopes.{State}
use Rattle.c_tree.specs.Programs.{is_main, has_main}
use Rattle.c_elaborator.specs.declared.work.Work.{Work}
use Rattle.c_elaborator.specs.Work.{Shows}

-- the number of `main`, and that there is none
abbrev pub IsMain : Work → Option ℕ → Type 0
IsMain w (Some k) = (s : State) → Shows w s →
    (has_main s.routines ≡ true) × (position_or_len is_main s.routines ≡ k)
IsMain w None = (s : State) → Shows w s → has_main s.routines ≡ false
