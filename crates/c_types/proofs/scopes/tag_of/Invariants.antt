use Rattle.std.proofs.Common.{◌≡◌, ◌≤◌, take, length}
use Rattle.std.specs.Prelude.{reverse}
use Rattle.c_types.specs.Looks.{tag_among}
use Rattle.c_types.proofs.scopes.tag_of.Given as goal

abbrev pub invariant-loop-left : goal.invariant-loop-left
invariant-loop-left l = record {
  within : l.left ≤ length l.scopes;
  rest : tag_among (reverse l.scopes) l.name ≡ tag_among (reverse (take l.left l.scopes)) l.name;
}

abbrev pub decreases-loop-left : goal.decreases-loop-left
decreases-loop-left l = l.left
