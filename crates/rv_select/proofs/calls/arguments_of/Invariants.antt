use Rattle.std.proofs.Common.{◌+◌, ◌≤◌, length}
use Rattle.std.specs.Prelude.{vec_len, min}
use Rattle.rv_select.specs.Passed.{ChoosesArguments, AreChosen, ArePlaced}
use Rattle.rv_select.specs.Choosing as selecting
use Rattle.rv_select.specs.Selected.{AreAside}
use Rattle.rv_select.proofs.calls.arguments_of.Given as goal

abbrev pub invariant-loop-k : goal.invariant-loop-k
invariant-loop-k l = record {
  few : vec_len l.all.moves + vec_len l.all.others ≤ min l.k (length l.args);
  chosen : ChoosesArguments l.f l.args → AreChosen l.f l.all.others.items;
  placed : ChoosesArguments l.f l.args → AreAside (selecting.chosen l.f) l.args
      → ArePlaced l.args (min (length l.args) l.k) l.all;
}
