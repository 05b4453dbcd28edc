use Rattle.std.proofs.Common.{Some, ap, sym, ◌∙◌}
use Rattle.std.proofs.lemmas.Result.{IfOk-weaker}
use Rattle.c_tree.specs.Layout.{bare}
use Rattle.mean_run.proofs.Members.{in_type}
use Rattle.mean_run.proofs.offsets.of_type.Goals as goal

pub returns-in-Some : goal.returns-in-Some
returns-in-Some c =
    let types = c.args.p.now.types in
    IfOk-weaker c.of_core.result _ _ (λ row h. in_type types c.args.t (Some c.in-Some.c.now) row
    (ap (λ z. bare z c.args.t) (sym c.as_slice.ensures) ∙ c.in-Some.ensures) h) c.of_core.ensures
