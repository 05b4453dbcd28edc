use Rattle.std.proofs.Common.{◌≡◌, ◌≤◌, ℕ, List, length, map, drop}
use Rattle.std.specs.Prelude.{bytes_eq}
use Rattle.std.specs.Map.{lookup}
use Rattle.c_types.specs.Stands.{first_named}
use Rattle.c_types.proofs.tags.names_of.Given as goal

abbrev pub invariant-loop-left : goal.invariant-loop-left
invariant-loop-left l = record {
  within : l.left ≤ length l.members;
  numbers : (name : List ℕ) → lookup (λ k. bytes_eq name k.bytes.now) l.numbers.entries
      ≡ first_named l.scopes.file.now l.left (map (λ m. m.name) (drop l.left l.members)) name;
}

abbrev pub decreases-loop-left : goal.decreases-loop-left
decreases-loop-left l = l.left
