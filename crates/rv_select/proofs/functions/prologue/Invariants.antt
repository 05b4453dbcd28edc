use Rattle.std.proofs.Common.{◌≡◌, ◌+◌, ◌++◌, ◌<◌, ◌≤◌, length, take}
use Rattle.rv_emit.specs.Growing.{entering, trapping}
use Rattle.rv_select.proofs.functions.prologue.Given as goal

abbrev pub invariant-loop-k : goal.invariant-loop-k
invariant-loop-k l = record {
  words : l.code.words ≡ l.fn.code.words + l.k;
  text : l.code.text ≡ l.fn.code.text ++ take l.k l.words;
  before : l.k ≤ l.first → l.code.links ≡ entering l.fn.code;
  behind : l.first < l.k
      → l.code.links ≡ trapping (entering l.fn.code) (length l.fn.code.text + l.first) l.name 1;
}
