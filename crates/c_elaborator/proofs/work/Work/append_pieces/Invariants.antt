use Rattle.std.proofs.Common.{drop}
use Rattle.c_tree.specs.Syntax.{Syns}
use Rattle.c_elaborator.specs.Parts.{AreParts}
use Rattle.c_elaborator.proofs.Parting.{Written}
use Rattle.c_elaborator.proofs.work.Work.append_pieces.Given as goal

abbrev pub invariant-loop-k : goal.invariant-loop-k
invariant-loop-k l = (xs : Syns) → AreParts l.self l.kids xs →
    Written l.self l.initial.into.items xs l.into.items (drop l.k-index l.kids)
