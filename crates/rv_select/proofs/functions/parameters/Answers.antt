use Rattle.purecap_abi.proofs.Ranges.{on_ok}
use Rattle.rv_select.proofs.Params.{parameters_put}
use Rattle.rv_select.proofs.functions.parameters.Goals as goal

pub returns-clause-words : goal.returns-clause-words
returns-clause-words c =
    let a = c.args in
    on_ok c.stack_parameters.result _ _ c.stack_parameters.ensures.words
    (λ loads t. parameters_put a.f.now a.params c.register_parameters.new.moves.items a.code.now
    c.register_parameters.new.code c.move_all.new.code c.stack_parameters.new.code t
    (c.in_ok-register_parameters.ensures.words t) c.in_ok-move_all.ensures.free (loads t))
