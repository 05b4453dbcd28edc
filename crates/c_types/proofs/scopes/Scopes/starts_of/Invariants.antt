use Rattle.std.proofs.Common.{◌≡◌, ◌≤◌, ◌<◌, ℕ, List, ◌++◌, map, drop}
use Rattle.c_tree.specs.Initializers.{struct_places}
use Rattle.c_tree.specs.Layout.{no_members}
use Rattle.c_tree.specs.Scopes.{State, Part}
use Rattle.c_tree.specs.Types.{Ty}
use Rattle.c_tree.specs.Views.{types_of}
use Rattle.cap_layout.specs.Answers.{greatest_align, extent_is}
use Rattle.c_types.specs.Calls.{HasParts}
use Rattle.c_types.specs.Stands.{Stands}
use Rattle.c_types.proofs.scopes.Scopes.starts_of.Given as goal

abbrev pub invariant-loop-m : goal.invariant-loop-m
invariant-loop-m l = record {
  starts : (s : State) (parts : List Part) → Stands l.self l.p s → HasParts (types_of l.p.types) parts l.ms →
      map (λ (x : ℕ × Ty). x.0) (struct_places s.tags parts no_members)
      ≡ l.starts.items ++ map (λ (x : ℕ × Ty). x.0) (struct_places s.tags (drop l.m-index parts) (extent_is l.end));
  positive : 0 < l.end.align;
  align : l.end.align ≤ greatest_align;
}
