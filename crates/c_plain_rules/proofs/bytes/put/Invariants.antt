use Rattle.std.proofs.Common.{◌≡◌, ℕ, ◌/◌, ◌^◌, get_or}
use Rattle.c_tree.specs.Statics.{byte_in}
use Rattle.c_plain_parts.proofs.ByteLaws.{cut}
use Rattle.c_plain_rules.proofs.bytes.put.Given as goal

abbrev pub invariant-loop-j : goal.invariant-loop-j
invariant-loop-j l = record {
  rest : l.left ≡ l.x.number / 256 ^ l.j;
  each : (k : ℕ) → get_or l.bytes k 0 ≡ byte_in k (get_or l.fn.bytes k 0) (cut l.x l.j);
}
