use Rattle.std.proofs.Common.{◌≡◌, ◌++◌, length, take, drop, map}
use Rattle.c_tree.specs.Programs.{Numbers}
use Rattle.c_copy.specs.Copying.{AreNumbers, expr_with}
use Rattle.c_copy.proofs.numbers.Numbers.renumber.Given as goal

abbrev pub invariant-loop-k : goal.invariant-loop-k
invariant-loop-k l =
    let old = l.initial.exprs.items in
    record {
      count : length l.exprs.items ≡ length old;
      end : l.k-end ≡ length old;
      are : (n : Numbers) → AreNumbers l.self n → l.exprs.items ≡ map (expr_with n) (take l.k old) ++ drop l.k old;
    }
