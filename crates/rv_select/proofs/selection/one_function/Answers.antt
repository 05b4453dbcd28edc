use Rattle.std.proofs.Common.{subst, sym}
use Rattle.purecap_abi.proofs.Ranges.{on_ok}
use Rattle.rv_select.specs.Written.{AreWritten}
use Rattle.rv_select.proofs.Together.{one_put}
use Rattle.rv_select.proofs.selection.one_function.Goals as goal

pub returns-clause-put : goal.returns-clause-put
returns-clause-put c =
    let written = subst (AreWritten c.args.t.now) (sym c.as_slice.ensures.value) c.in_ok-written.ensures in
    on_ok c.select_function.result _ _ c.select_function.ensures.put
    (one_put _ c.args.t.now c.args.code.now c.select_function.new.code c.requires.framed written)
