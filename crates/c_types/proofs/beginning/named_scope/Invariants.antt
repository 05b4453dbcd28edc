use Rattle.std.proofs.Common.{◌≡◌, List, true, take}
use Rattle.c_tree.specs.Types.{Ty}
use Rattle.c_types.specs.Stands.{ShowsScope}
use Rattle.c_types.specs.Beginning.{KnowsTypes, all_refer_within, names_scope}
use Rattle.c_types.proofs.beginning.named_scope.Given as goal

abbrev pub invariant-loop-name : goal.invariant-loop-name
invariant-loop-name l = (ts : List Ty) → KnowsTypes ts l.numbers → all_refer_within l.rows ≡ true →
    ShowsScope ts 0 l.scope (names_scope (take l.name-index l.rows))
