use Rattle.std.proofs.Common.{◌≡◌, length}
use Rattle.c_tree.specs.Views.{types_of}
use Rattle.c_interner.specs.Numbers.{AddsTypes}
use Rattle.c_types.proofs.Start.{KnowsFirst}
use Rattle.c_types.proofs.beginning.known_types.Given as goal

abbrev pub invariant-loop-recipe : goal.invariant-loop-recipe
invariant-loop-recipe l = record {
  adds : AddsTypes l.fn.p l.p;
  count : length l.numbers.items ≡ l.recipe-index;
  knows : KnowsFirst (types_of l.p.types) l.numbers.items;
}
