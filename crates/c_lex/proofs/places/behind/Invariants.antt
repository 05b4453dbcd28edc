use Rattle.std.proofs.Common.{◌≡◌, List, ℕ, ◌++◌, take}
use Rattle.c_lex.specs.Pieces.{place_behind}
use Rattle.c_lex.proofs.places.behind.Given as goal

abbrev pub invariant-loop-b : goal.invariant-loop-b
invariant-loop-b l = (front : List ℕ) → l.fn.place ≡ place_behind front →
    l.place ≡ place_behind (front ++ take l.b-index l.bytes)
