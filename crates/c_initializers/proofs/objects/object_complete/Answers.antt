use Rattle.std.proofs.Common.{ap, sym}
use Rattle.c_elaborator.specs.Answers.{quietly, NothingThere, IsNothing}
use Rattle.c_elaborator.proofs.Sequencing.{answers_at}
use Rattle.c_tree.specs.Declarations.{complete_now}
use Rattle.c_expressions.specs.Nodes.{type_in}
use Rattle.c_initializers.specs.Objects.{object_complete}
use Rattle.c_initializers.proofs.objects.object_complete.Goals as goal

pub returns : goal.returns
returns c =
    let w = c.args.work.now in
    answers_at quietly w w (object_complete c.args.k c.args.pos)
    (complete_now (type_in w.nodes c.static_type.result) c.args.pos) NothingThere IsNothing c.complete_now.result
    (λ s h. ap (λ t. complete_now t c.args.pos s) (sym (c.static_type.ensures.is s h))) c.complete_now.ensures.is
