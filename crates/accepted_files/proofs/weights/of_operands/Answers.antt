use Rattle.std.proofs.Common.{sym, subst}
use Rattle.c_tree.specs.Views.{operands}
use Rattle.accepted_files.specs.Sums.{AreThere}
use Rattle.accepted_files.proofs.Summing.{behind}
use Rattle.accepted_files.proofs.weights.of_operands.Goals as goal

pub of_list-requires : goal.of_list-requires
of_list-requires c =
    let sums = c.args.sums.now in
    let all = subst (λ z. AreThere sums (operands z)) c.in-Call.is c.requires in
    subst (λ z. AreThere sums z) (sym c.as_slice.ensures) (behind sums _ _ all)
